-- Sets as numbers: sets of sites and sets of rights.
-- Assumes nothing.
use Rattle.std.specs.Prelude.{Bool, true, false, List, [], ◌∷◌, ℕ, ◌+◌, ◌/◌, ◌%◌, ◌^◌, eqb, length}
use Rattle.std.specs.Int.Bits.{bit_or, bit_and, bit_xor}
use Rattle.sets.specs.Lists.{keep, below}

-- "Rights are bits: o (out) 1, i (in) 2, r (read) 4, e (eval) 8, a (accept) 16"
abbrev pub out_bit : ℕ
out_bit = 1

abbrev pub in_bit : ℕ
in_bit = 2

abbrev pub read_bit : ℕ
read_bit = 4

abbrev pub eval_bit : ℕ
eval_bit = 8

abbrev pub accept_bit : ℕ
accept_bit = 16

-- the rights in the order `oirea`
abbrev pub every_bit : List ℕ
every_bit = out_bit ∷ in_bit ∷ read_bit ∷ eval_bit ∷ accept_bit ∷ []

-- how many there are
abbrev pub right_count : ℕ
right_count = length every_bit

-- all of them, as a set
abbrev pub every_right : ℕ
every_right = 31

-- how many sets of rights there are, from none to all
abbrev pub set_count : ℕ
set_count = every_right + 1

-- the set has the bit r (1, 2, 4, ..)
unfoldable pub has : ℕ → ℕ → Bool
has m r = eqb (m / r % 2) 1

-- "A set of sites is a 32-bit number, bit n for site n": the set m has site s
abbrev pub mem : ℕ → ℕ → Bool
mem s m = has m (2 ^ s)

-- the sites of a set
unfoldable pub sites : ℕ → List ℕ
sites m = keep (λ s. mem s m) (below 32)

-- what either has, and what both have
unfoldable pub join : ℕ → ℕ → ℕ
join a b = bit_or a b

unfoldable pub meet : ℕ → ℕ → ℕ
meet a b = bit_and a b

-- a without what b has
unfoldable pub less : ℕ → ℕ → ℕ
less a b = bit_xor a (meet a b)

-- a lies within b
unfoldable pub within : ℕ → ℕ → Bool
within a b = eqb (meet a b) a

-- the set, if the test holds
unfoldable pub grant : Bool → ℕ → ℕ
grant true m = m
grant false m = 0

-- the union, and the rights in common, of f x over a list
unfoldable pub joins : {A : Type 0} → (A → ℕ) → List A → ℕ
joins f [] = 0
joins f (x ∷ xs) = join (f x) (joins f xs)

unfoldable pub meets : {A : Type 0} → (A → ℕ) → List A → ℕ
meets f [] = every_right
meets f (x ∷ xs) = meet (f x) (meets f xs)

-- how many rights a set has
unfoldable pub size : ℕ → ℕ
size m = length (keep (has m) every_bit)
