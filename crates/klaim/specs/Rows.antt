-- The form of a row. A row that is not of its form gives nothing, and is refused with 1.
-- Assumes nothing.
use Rattle.std.specs.Prelude.{Bool, true, false, not, List, [], ◌∷◌, ℕ, ◌+◌, ◌*◌, ◌-◌, eqb, leb, ltb, length, get_or, drop}
use Rattle.std.proofs.Math.Option.{Option, none, some}
use Prim.Native.Char.{code}
use Prim.Native.String.{String, [] as done, ◌∷◌ as ◌then◌}
use Rattle.sets.specs.Lists.{◌&◌, either, all, empty, same, concat, ◌⧺◌}
use Rattle.sets.specs.Bits.{out_bit, in_bit, read_bit, eval_bit, accept_bit}
use Rattle.klaim.specs.declared.Loc.{Loc}
use Rattle.klaim.specs.declared.Loc.TheVariants.{At, Here, Use}
use Rattle.klaim.specs.declared.Slot.{Slot}
use Rattle.klaim.specs.declared.Slot.TheVariants.{Value, Bind, Wildcard}
use Rattle.klaim.specs.Limits.{field_limit}
use Rattle.klaim.specs.Process.{Line, Nil, Par, Rep, Out, In, Read, Eval, Accept, children, boxes_of, slots_of, sites_in, used_in, bound_in}

-- a quoted text as bytes
unfoldable pub text : String → List ℕ
text done = []
text (◌then◌ c s) = code c ∷ text s

-- "parted by commas"
abbrev pub comma : ℕ
comma = 44

-- "a row ends with byte 0A hexadecimal"
abbrev pub newline : ℕ
newline = 10

-- the pieces of a list whose first byte is x, given whether x is a separator and the pieces of the rest
unfoldable pub pieces_after : Bool → ℕ → List (List ℕ) → List (List ℕ)
pieces_after true x ps = [] ∷ ps
pieces_after false x [] = (x ∷ []) ∷ []
pieces_after false x (p ∷ ps) = (x ∷ p) ∷ ps

-- the pieces between the separators b, one more than there are separators
unfoldable pub split : ℕ → List ℕ → List (List ℕ)
split b [] = [] ∷ []
split b (x ∷ s) = pieces_after (eqb x b) x (split b s)

-- what a field says, if it is of its form; of a row each field has to be
infixl 20 ◌>>=◌
unfoldable pub ◌>>=◌ : {A B : Type 0} → Option A → (A → Option B) → Option B
none >>= f = none
some a >>= f = f a

-- the value, if the test holds
unfoldable pub given : {A : Type 0} → Bool → Option A → Option A
given true x = x
given false x = none

-- the first of two readings that applies
unfoldable pub otherwise : {A : Type 0} → Option A → Option A → Option A
otherwise none y = y
otherwise (some x) y = some x

-- each element read
unfoldable pub each : {A B : Type 0} → (A → Option B) → List A → Option (List B)
each f [] = some []
each f (x ∷ xs) = do
  y ← f x
  ys ← each f xs
  some (y ∷ ys)

-- "Numbers are decimal": a digit
unfoldable pub digit : ℕ → Bool
digit b = leb (code "0") b & leb b (code "9")

-- the value of digits, behind the value n of those before them
unfoldable pub decimal : ℕ → List ℕ → ℕ
decimal n [] = n
decimal n (b ∷ f) = decimal (10 * n + (b - code "0")) f

-- "Numbers are decimal, one to three digits, no leading zero."
unfoldable pub number : List ℕ → Option ℕ
number f =
    given
    (leb 1 (length f) & leb (length f) 3
    & all digit f
    & either (eqb (length f) 1) (not (eqb (get_or f 0 0) (code "0"))))
    (some (decimal 0 f))

-- a letter and a number
unfoldable pub lettered : ℕ → List ℕ → Option ℕ
lettered x [] = none
lettered x (b ∷ f) = given (eqb b x) (number f)

-- "Sites are s0 to s31, variables u0 to u31": the numbers are held to their limits later
unfoldable pub site_field : List ℕ → Option ℕ
site_field f = lettered (code "s") f

-- "variables u0 to u31"
unfoldable pub var_field : List ℕ → Option ℕ
var_field f = lettered (code "u") f

-- "`self`"
unfoldable pub is_self : List ℕ → Bool
is_self f = same f (text "self")

-- the right of a letter
unfoldable pub right_of : ℕ → Option ℕ
right_of b =
    otherwise (given (eqb b (code "o")) (some out_bit))
    (otherwise (given (eqb b (code "i")) (some in_bit))
    (otherwise (given (eqb b (code "r")) (some read_bit))
    (otherwise (given (eqb b (code "e")) (some eval_bit))
    (given (eqb b (code "a")) (some accept_bit)))))

-- the rights of letters, each behind `last` and those before it in the order `oirea`
unfoldable pub rights_after : ℕ → List ℕ → Option ℕ
rights_after last [] = some 0
rights_after last (b ∷ f) = do
  r ← right_of b
  rs ← rights_after r f
  given (ltb last r) (some (r + rs))

-- "Rights are letters in the order `oirea`, at least one."
unfoldable pub rights_field : List ℕ → Option ℕ
rights_field f = given (not (empty f)) (rights_after 0 f)

-- the rights of a D row; No. 3: "where `-` is the empty set, allowed in D rows only"
unfoldable pub box_rights_field : List ℕ → Option ℕ
box_rights_field f = otherwise (given (same f (text "-")) (some 0)) (rights_field f)

-- a target, or a field of `out`: "site, `self`, variable"; No. 1: "`_` in `out` or as a target is still 1."
unfoldable pub loc_field : List ℕ → Option Loc
loc_field f =
    otherwise (site_field f >>= λ s. some (At (record { 0 = s })))
    (otherwise (given (is_self f) (some Here))
    (var_field f >>= λ u. some (Use (record { 0 = u }))))

-- `!u`
unfoldable pub bind_field : List ℕ → Option Slot
bind_field [] = none
bind_field (b ∷ f) = given (eqb b (code "!")) (var_field f >>= λ u. some (Bind (record { 0 = u })))

-- No. 1: "the field `_`"
unfoldable pub is_wildcard : List ℕ → Bool
is_wildcard f = same f (text "_")

-- a field of a template: "and in `in` and `read` also `!u`"; No. 1: "Templates of `in` and `read` get the field `_`"
unfoldable pub slot_field : List ℕ → Option Slot
slot_field f =
    otherwise (bind_field f)
    (otherwise (given (is_wildcard f) (some Wildcard))
    (loc_field f >>= λ x. some (Value x)))

-- "1 to 4 fields", each read
unfoldable pub fields : {A : Type 0} → (List ℕ → Option A) → List (List ℕ) → Option (List A)
fields f fs = given (leb 1 (length fs) & leb (length fs) field_limit) (each f fs)

-- the groups, numbered: "Net groups, in this order", then "Estimate groups"
abbrev pub group_n : ℕ
group_n = 1

-- "`R,s,t,rights`: home policy of site s towards t"
abbrev pub group_r : ℕ
group_r = 2

-- "`D,k,t,rights`: sandbox k (0 to 31) towards t"
abbrev pub group_d : ℕ
group_d = 3

-- "`T,s,f..`: a tuple of 1 to 4 sites standing at s"
abbrev pub group_t : ℕ
group_t = 4

-- "`L,s,q`: process line q runs at s under the home policy"
abbrev pub group_l : ℕ
group_l = 5

-- "`Q,q,..`: process lines"
abbrev pub group_q : ℕ
group_q = 6

-- "`B,u,s` (u may become s)"
abbrev pub group_b : ℕ
group_b = 7

-- "`A,s,f..` (the tuple may stand at s)"
abbrev pub group_a : ℕ
group_a = 8

-- "`E,s,t,rights` (sandboxes at s may hold these towards t)"
abbrev pub group_e : ℕ
group_e = 9

-- a row of good form: its group, and what stands in it by sort, each sort in the row's order;
-- n of an N row; sandboxes; variables; sites; process lines; rights; the line of a Q row
pub record Row : Type 0 where
  pub group : ℕ
  pub size : ℕ
  pub boxes : List ℕ
  pub vars : List ℕ
  pub sites : List ℕ
  pub lines : List ℕ
  pub rights : ℕ
  pub process : Line

-- field k of a row, from 0
abbrev pub at : List (List ℕ) → ℕ → List ℕ
at fs k = get_or fs k []

-- the row has n fields, its letter counted
abbrev pub sized : {A : Type 0} → ℕ → List (List ℕ) → Option A → Option A
sized n fs x = given (eqb (length fs) n) x

-- "`N,n`"
unfoldable pub row_n : List (List ℕ) → Option Row
row_n fs = sized 2 fs do
  n ← number (at fs 1)
  some (record { group = group_n; size = n; boxes = []; vars = []; sites = []; lines = []; rights = 0; process = Nil })

-- "`R,s,t,rights`", and "`E,s,t,rights`"
unfoldable pub row_pair : ℕ → List (List ℕ) → Option Row
row_pair g fs = sized 4 fs do
  s ← site_field (at fs 1)
  t ← site_field (at fs 2)
  r ← rights_field (at fs 3)
  some (record { group = g; size = 0; boxes = []; vars = []; sites = s ∷ t ∷ []; lines = []; rights = r; process = Nil })

-- the t of a D row, "a site or `self`": for `self` no site
unfoldable pub towards : List ℕ → Option (List ℕ)
towards f = otherwise (site_field f >>= λ t. some (t ∷ [])) (given (is_self f) (some []))

-- "`D,k,t,rights`"; No. 3: "write `D,k,self,-`"
unfoldable pub row_d : List (List ℕ) → Option Row
row_d fs = sized 4 fs do
  k ← number (at fs 1)
  t ← towards (at fs 2)
  r ← box_rights_field (at fs 3)
  some (record { group = group_d; size = 0; boxes = k ∷ []; vars = []; sites = t; lines = []; rights = r; process = Nil })

-- "`T,s,f..`", and "`A,s,f..`": the site at which the tuple stands first
unfoldable pub row_tuple : ℕ → List (List ℕ) → Option Row
row_tuple g fs = do
  s ← site_field (at fs 1)
  ts ← fields site_field (drop 2 fs)
  some (record { group = g; size = 0; boxes = []; vars = []; sites = s ∷ ts; lines = []; rights = 0; process = Nil })

-- "`L,s,q`"
unfoldable pub row_l : List (List ℕ) → Option Row
row_l fs = sized 3 fs do
  s ← site_field (at fs 1)
  q ← number (at fs 2)
  some (record { group = group_l; size = 0; boxes = []; vars = []; sites = s ∷ []; lines = q ∷ []; rights = 0; process = Nil })

-- "`B,u,s`"
unfoldable pub row_b : List (List ℕ) → Option Row
row_b fs = sized 3 fs do
  u ← var_field (at fs 1)
  s ← site_field (at fs 2)
  some (record { group = group_b; size = 0; boxes = []; vars = u ∷ []; sites = s ∷ []; lines = []; rights = 0; process = Nil })

-- the line kinds, from their word on
unfoldable pub line_nil : List (List ℕ) → Option Line
line_nil ws = sized 1 ws (some Nil)

-- "`par,a,b`"
unfoldable pub line_par : List (List ℕ) → Option Line
line_par ws = sized 3 ws do
  a ← number (at ws 1)
  b ← number (at ws 2)
  some (Par a b)

-- "`rep,a`"
unfoldable pub line_rep : List (List ℕ) → Option Line
line_rep ws = sized 2 ws do
  a ← number (at ws 1)
  some (Rep a)

-- "`out,a,g,f..`"
unfoldable pub line_out : List (List ℕ) → Option Line
line_out ws = do
  a ← number (at ws 1)
  g ← loc_field (at ws 2)
  fs ← fields loc_field (drop 3 ws)
  some (Out a g fs)

-- `in` and `read`
unfoldable pub line_get : (ℕ → Loc → List Slot → Line) → List (List ℕ) → Option Line
line_get kind ws = do
  a ← number (at ws 1)
  g ← loc_field (at ws 2)
  fs ← fields slot_field (drop 3 ws)
  some (kind a g fs)

-- "`eval,a,g,b,k`"
unfoldable pub line_eval : List (List ℕ) → Option Line
line_eval ws = sized 5 ws do
  a ← number (at ws 1)
  g ← loc_field (at ws 2)
  b ← number (at ws 3)
  k ← number (at ws 4)
  some (Eval a g b k)

-- "`accept,a,k`"
unfoldable pub line_accept : List (List ℕ) → Option Line
line_accept ws = sized 3 ws do
  a ← number (at ws 1)
  k ← number (at ws 2)
  some (Accept a k)

-- the reading, if the first field is the word
abbrev pub if_word : {A : Type 0} → String → List (List ℕ) → Option A → Option A
if_word w fs x = given (same (at fs 0) (text w)) x

-- the eight kinds, by their word
unfoldable pub line_form : List (List ℕ) → Option Line
line_form ws =
    otherwise (if_word "nil" ws (line_nil ws))
    (otherwise (if_word "par" ws (line_par ws))
    (otherwise (if_word "rep" ws (line_rep ws))
    (otherwise (if_word "out" ws (line_out ws))
    (otherwise (if_word "in" ws (line_get In ws))
    (otherwise (if_word "read" ws (line_get Read ws))
    (otherwise (if_word "eval" ws (line_eval ws))
    (if_word "accept" ws (line_accept ws))))))))

-- a Q row: its own number and what its line names
unfoldable pub row_line : ℕ → Line → Row
row_line q l = record {
  group = group_q;
  size = 0;
  boxes = boxes_of l;
  vars = concat used_in (slots_of l) ⧺ concat bound_in (slots_of l);
  sites = concat sites_in (slots_of l);
  lines = q ∷ children l;
  rights = 0;
  process = l;
}

-- "`Q,q,..`"
unfoldable pub row_q : List (List ℕ) → Option Row
row_q fs = do
  q ← number (at fs 1)
  l ← line_form (drop 2 fs)
  some (row_line q l)

-- a row by its letter: it is held against the forms of all groups, whatever the text
unfoldable pub row_form : List (List ℕ) → Option Row
row_form fs =
    otherwise (if_word "N" fs (row_n fs))
    (otherwise (if_word "R" fs (row_pair group_r fs))
    (otherwise (if_word "D" fs (row_d fs))
    (otherwise (if_word "T" fs (row_tuple group_t fs))
    (otherwise (if_word "L" fs (row_l fs))
    (otherwise (if_word "Q" fs (row_q fs))
    (otherwise (if_word "B" fs (row_b fs))
    (otherwise (if_word "A" fs (row_tuple group_a fs))
    (if_word "E" fs (row_pair group_e fs)))))))))

-- "Fields in a fixed order, parted by commas, no quoting"
unfoldable pub row_of : List ℕ → Option Row
row_of piece = row_form (split comma piece)

-- "a row ends with byte 0A hexadecimal, and bytes left behind the last one are a row refused with 1"
unfoldable pub rows_from : List (List ℕ) → List (Option Row)
rows_from [] = []
rows_from ([] ∷ []) = []
rows_from ((b ∷ left) ∷ []) = none ∷ []
rows_from (piece ∷ next ∷ ps) = row_of piece ∷ rows_from (next ∷ ps)

-- the rows of a text
unfoldable pub rows_of : List ℕ → List (Option Row)
rows_of bytes = rows_from (split newline bytes)
