-- What the code needs beside the meaning of the calls.
pub mod Beginning
pub mod Giving
pub mod Noting
pub mod Pushing
