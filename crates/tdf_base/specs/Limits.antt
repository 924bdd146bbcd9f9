-- The limits of models and of runs, each once by its name (own).
use Rattle.std.specs.Prelude.{ℕ, ◌^◌, List, [], ◌∷◌}

-- bytes of a model text
abbrev pub longest_text : ℕ
longest_text = 1048576

-- bytes of a line
abbrev pub longest_line : ℕ
longest_line = 1024

-- bytes of a name
abbrev pub longest_name : ℕ
longest_name = 64

-- how deep `if` and `for` may nest
abbrev pub deepest_nesting : ℕ
deepest_nesting = 8

-- digits on one side of a number's point
abbrev pub most_digits : ℕ
most_digits = 18

-- the least count of time that is too large
abbrev pub time_end : ℕ
time_end = 10 ^ 18

-- samples that a port takes or gives in one firing; also the values of an array and the limit of a
abbrev pub greatest_rate : ℕ
greatest_rate = 4096

-- samples that a port holds back
abbrev pub greatest_delay : ℕ
greatest_delay = 65536

-- columns of a table
abbrev pub most_traces : ℕ
most_traces = 94

-- the weight of a body
abbrev pub heaviest_body : ℕ
heaviest_body = 65536

-- what a bound model has: instances, ports, signals, state cells, processes, events, clusters
abbrev pub most_instances : ℕ
most_instances = 1024

abbrev pub most_ports : ℕ
most_ports = 8192

abbrev pub most_signals : ℕ
most_signals = 8192

abbrev pub most_cells : ℕ
most_cells = 1048576

abbrev pub most_processes : ℕ
most_processes = 8192

abbrev pub most_events : ℕ
most_events = 8192

abbrev pub most_clusters : ℕ
most_clusters = 64

-- firings in one period of a cluster
abbrev pub most_firings : ℕ
most_firings = 262144

-- samples in the buffers of a cluster
abbrev pub most_samples : ℕ
most_samples = 1048576

-- all of them, in this order
abbrev pub all_limits : List ℕ
all_limits =
    longest_text ∷ (longest_line ∷ (longest_name ∷ (deepest_nesting ∷ (most_digits ∷ (time_end
    ∷ (greatest_rate ∷ (greatest_delay ∷ (most_traces ∷ (heaviest_body
    ∷ (most_instances ∷ (most_ports ∷ (most_signals ∷ (most_cells
    ∷ (most_processes ∷ (most_events ∷ (most_clusters
    ∷ (most_firings ∷ (most_samples ∷ []))))))))))))))))))
