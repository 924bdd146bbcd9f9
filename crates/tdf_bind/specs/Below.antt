-- Definitions of crates below, passed on to those above.
-- Source: the crates that say them.
pub use Rattle.tdf_bind_attributes.specs.Roles.{data_of_port, initials_of_port, module_role, port_data, rate_of_limit, rate_of_port, roles_of, step_of_port, variable_at, variable_of, with_initial}
unfoldable pub use Rattle.tdf_bind_attributes.specs.Roles.{roles_from, with_initials}
pub use Rattle.tdf_bind_attributes.specs.Standing.{assigned_port_step, module_step, or_else, when}
unfoldable pub use Rattle.tdf_bind_attributes.specs.Standing.{last_of}
