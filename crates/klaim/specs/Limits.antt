-- The limits and sizes of document 01, and where its tables have their bytes.
-- Assumes nothing.
use Rattle.std.specs.Prelude.{ℕ, ◌+◌, ◌*◌}

-- "Sites are s0 to s31"
abbrev pub site_limit : ℕ
site_limit = 32

-- "variables u0 to u31"
abbrev pub var_limit : ℕ
var_limit = 32

-- "sandbox k (0 to 31)"
abbrev pub box_limit : ℕ
box_limit = 32

-- T rows, A rows, and the tuples of a state: "at most 256"
abbrev pub tuple_limit : ℕ
tuple_limit = 256

-- L rows, and the threads of a state: "at most 64"
abbrev pub thread_limit : ℕ
thread_limit = 64

-- process lines: "at most 256"
abbrev pub line_limit : ℕ
line_limit = 256

-- "a tuple of 1 to 4 sites"
abbrev pub field_limit : ℕ
field_limit = 4

-- "The report is 1,024 bytes"
abbrev pub report_size : ℕ
report_size = 1024

-- "at most 64 KiB"
abbrev pub input_limit : ℕ
input_limit = 65536

-- the home policies have a byte for each pair of sites, as the report has, and so have the E rows
abbrev pub policy_size : ℕ
policy_size = 1024

-- "byte 32 × subject + object"
abbrev pub pair_index : ℕ → ℕ → ℕ
pair_index s t = site_limit * s + t

-- the sandboxes have a byte for each of 32 sites, and one more: "A sandbox may also have a row for `self`"
abbrev pub box_width : ℕ
box_width = 33

abbrev pub boxes_size : ℕ
boxes_size = 1056

abbrev pub box_index : ℕ → ℕ → ℕ
box_index k t = box_width * k + t

-- where t is `self`
abbrev pub self_place : ℕ
self_place = site_limit
