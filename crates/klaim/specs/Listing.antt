-- The March listing: from the bytes of the input to the bytes of the output. No. 7 is a request of document 02.
-- Assumes nothing.
use Rattle.std.specs.Prelude.{Bool, true, false, not, cond, List, [], ◌∷◌, ℕ, zero, suc, ◌+◌, ◌*◌, ◌/◌, ◌%◌, eqb, ltb, length, take, drop, get_or}
use Prim.Native.Char.{code}
use Prim.Native.String.{String}
use Rattle.sets.specs.Lists.{◌&◌, keep, concat, below, same, sum, ◌⧺◌}
use Rattle.sets.specs.Bits.{out_bit, in_bit, read_bit, eval_bit, every_bit, has, join, meet, joins, grant, size}
use Rattle.klaim.specs.Limits.{site_limit, report_size, input_limit}
use Rattle.klaim.specs.Rows.{text, comma, newline}
use Rattle.klaim.specs.Net.{Net, home, holds}
use Rattle.klaim.specs.Reader.{Answer, refused, gives, World, read_both}
use Rattle.klaim.specs.Analysis.{Verdict, accepted, broken_t, broken_q, verdict, place_set, process}
use Rattle.klaim.specs.Report.{uses, report}

-- a number in decimal; k bounds how many digits follow the first
unfoldable pub digits : ℕ → ℕ → List ℕ
digits zero n = (code "0" + n % 10) ∷ []
digits (suc k) n = elim (ltb n 10) [ true ↦ (code "0" + n) ∷ [] | false ↦ digits k (n / 10) ⧺ ((code "0" + n % 10) ∷ []) ]

-- a number in decimal
unfoldable pub numeral : ℕ → List ℕ
numeral n = digits n n

-- the letter of a right
unfoldable pub letter : ℕ → ℕ
letter r = cond (eqb r out_bit) (code "o") (cond (eqb r in_bit) (code "i") (cond (eqb r read_bit) (code "r") (cond (eqb r eval_bit) (code "e") (code "a"))))

-- the letters of a set of rights, "in the order `oirea`"
unfoldable pub letters : ℕ → List ℕ
letters m = concat (λ r. letter r ∷ []) (keep (has m) every_bit)

-- "Sites are s0 to s31"
unfoldable pub site_name : ℕ → List ℕ
site_name s = code "s" ∷ numeral s

-- fields parted by commas, and the byte 0A
unfoldable pub tail : List (List ℕ) → List ℕ
tail [] = newline ∷ []
tail (f ∷ fs) = comma ∷ (f ⧺ tail fs)

-- a row of the output: its word and its fields
unfoldable pub row : String → List (List ℕ) → List ℕ
row word fs = text word ⧺ tail fs

-- "the number of rights reported"
unfoldable pub reported : List ℕ → ℕ
reported bytes = sum size bytes

-- "V: subject, object, rights, non-empty only, in byte order"
unfoldable pub row_v : List ℕ → ℕ → List ℕ
row_v bytes i = row "V" (site_name (i / site_limit) ∷ site_name (i % site_limit) ∷ letters (get_or bytes i 0) ∷ [])

-- the V rows of a report
unfoldable pub rows_v : List ℕ → List ℕ
rows_v bytes = concat (row_v bytes) (keep (λ i. not (eqb (get_or bytes i 0) 0)) (below report_size))

-- "rights in its home policy"
unfoldable pub home_count : Net → ℕ → ℕ
home_count N s = sum (λ t. size (home N s t)) (below site_limit)

-- the rights on t "in a root's use map there or in its E rows"
unfoldable pub usable : World → ℕ → ℕ → ℕ
usable w s t =
    join (joins (λ r. grant (eqb r.site s) (uses w.net w.estimate (place_set s) (process w.net r) t)) w.net.roots)
    (holds w.estimate s t)

-- "those also in a root's use map there or in its E rows"
unfoldable pub used_count : World → ℕ → ℕ
used_count w s = sum (λ t. size (meet (home w.net s t) (usable w s t))) (below site_limit)

-- "the even one" of n and n + 1
unfoldable pub even_of : ℕ → ℕ
even_of n = cond (eqb (n % 2) 0) n (n + 1)

-- No. 7: "round to the nearest .., a half going to the even one": n times p and a rest, of which less than half of p goes down and
-- more goes up
unfoldable pub nearest : ℕ → ℕ → ℕ
nearest p a =
    let n = a / p in
    let rest = a % p in
    cond (ltb (2 * rest) p) n
    (cond (ltb p (2 * rest)) (n + 1)
    (even_of n))

-- "share in thousandths .., 0 of 0 being 0"; No. 7: "to the nearest thousandth": q of p
unfoldable pub share : ℕ → ℕ → ℕ
share p q = cond (eqb p 0) 0 (nearest p (1000 * q))

-- "U: site, rights in its home policy, those also .., share"
unfoldable pub row_u : World → ℕ → List ℕ
row_u w s =
    let p = home_count w.net s in
    let q = used_count w s in
    row "U" (site_name s ∷ numeral p ∷ numeral q ∷ numeral (share p q) ∷ [])

-- "`accepted`" with the V and U rows, "Else `broken,T,` or `broken,Q,` and the number counted from 0"
unfoldable pub list_verdict : World → Verdict → List ℕ
list_verdict w accepted =
    let bytes = report w.net w.estimate in
    row "accepted" (numeral (reported bytes) ∷ []) ⧺ (rows_v bytes ⧺ concat (row_u w) (below w.net.size))
list_verdict w (broken_t i) = row "broken" (text "T" ∷ numeral i ∷ [])
list_verdict w (broken_q q) = row "broken" (text "Q" ∷ numeral q ∷ [])

-- "`refused,` number, comma, row (0 where none)"
unfoldable pub list_read : Answer World → List ℕ
list_read (refused n r) = row "refused" (numeral n ∷ numeral r ∷ [])
list_read (gives w) = list_verdict w (verdict w.net w.estimate)

-- how many bytes stand before "the first row `.`", which begins where a row begins; all of them, where there is none
unfoldable pub before : Bool → List ℕ → ℕ
before start [] = 0
before start (b ∷ bytes) =
    elim (start & same (take 2 (b ∷ bytes)) (code "." ∷ newline ∷ [])) [ true ↦ 0 | false ↦ suc (before (eqb b newline) bytes) ]

-- the bytes of the net
unfoldable pub net_part : List ℕ → List ℕ
net_part input = take (before true input) input

-- "without one the estimate is empty"
unfoldable pub estimate_part : List ℕ → List ℕ
estimate_part input = drop (before true input + 2) input

-- "reads net, a row `.`, estimate from standard input (at most 64 KiB; longer is 2, row 0; .. without one the estimate is empty)"
unfoldable pub listing : List ℕ → List ℕ
listing input =
    elim (ltb input_limit (length input)) [
      | true ↦ list_read (refused 2 0)
      | false ↦ list_read (read_both (net_part input) (estimate_part input))
    ]
