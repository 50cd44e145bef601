-- Laws of the kinds of process lines, by the fields of their row.
-- Assumes nothing.
use mathlib.Core.Path.{◌≡◌, refl, sym, ap, ◌∙◌}
use mathlib.Core.Bool.{true, false}
use mathlib.Core.List.{List, [], ◌∷◌}
use mathlib.Core.Option.{none, some}
use Prim.Native.Nat.{ℕ, ◌+◌, ◌<◌, ◌-◌}
use native.Mathlib.Omega.{arith}
use native.Mathlib.Decide.{ℕ_discrete}
use lib.Dec.{eqb}
use lib.ListN.{length, drop, length-drop}
use lib.Seq.{get_or-drop, drop-drop}
use borrow.Author.Tests.{eq-eqb, ne_eqb}
use Rattle.sets.specs.Lists.{◌&◌, same}
use Rattle.sets.proofs.Lists.{same_eq}
use Rattle.klaim.specs.declared.Loc.{Loc}
use Rattle.klaim.specs.declared.Slot.{Slot}
use Rattle.klaim.specs.Process.{Line, Nil, Par, Rep, Out, In, Read, Eval, Accept}
use Rattle.text.proofs.Fields.{otherwise_none}
use Rattle.lines.specs.Lines.{acts_form}
use Rattle.klaim.specs.Rows.{at, text, given, otherwise, ◌>>=◌, number, loc_field, slot_field, line_nil, line_par, line_rep, line_out, line_get, line_eval, line_accept, line_form}

-- a test of how many fields there are
pub sized_yes : {l m n : ℕ} → m ≡ l → m ≡ n → eqb l n ≡ true
sized_yes e h = eq-eqb _ _ (sym e ∙ h)

pub sized_no : {l m n : ℕ} → m ≡ l → (m ≡ n → ⊥) → eqb l n ≡ false
sized_no e h = ne_eqb _ _ (λ q. h (e ∙ q))

-- how many words there are behind the first two fields
behind : (n : ℕ) (fs : List (List ℕ)) → 0 < n → eqb (length (drop 2 fs)) n ≡ eqb (length fs) (n + 2)
behind n fs h = ap (λ m. eqb m n) (length-drop 2 fs) ∙ go (ℕ_discrete (length fs) (n + 2))
  where
    go : Dec (length fs ≡ n + 2) → eqb (length fs - 2) n ≡ eqb (length fs) (n + 2)
    go (yes e) = rw (eq-eqb (length fs) (n + 2) e, eq-eqb (length fs - 2) n (omega arith))
    go (no e) = rw (ne_eqb (length fs) (n + 2) e, ne_eqb (length fs - 2) n (λ q. e (omega arith)))

-- the words of a row's line
module _ (fs : List (List ℕ)) where
  word : (k : ℕ) → at (drop 2 fs) k ≡ at fs (2 + k)
  word k = get_or-drop 2 fs k []

  words : at (drop 2 (drop 2 fs)) 0 ≡ at fs 4
  words = get_or-drop 2 (drop 2 fs) 0 [] ∙ word 2

  pub nil_at : line_nil (drop 2 fs) ≡ given (eqb (length fs) 3) (some Nil)
  unfolding line_nil
  nil_at = rw (behind 1 fs (omega arith)) refl

  pub par_at : line_par (drop 2 fs) ≡ given (eqb (length fs) 5) (number (at fs 3) >>= λ a. number (at fs 4) >>= λ b. some (Par a b))
  unfolding line_par
  par_at = rw (behind 3 fs (omega arith), word 1, word 2) refl

  pub rep_at : line_rep (drop 2 fs) ≡ given (eqb (length fs) 4) (number (at fs 3) >>= λ a. some (Rep a))
  unfolding line_rep
  rep_at = rw (behind 2 fs (omega arith), word 1) refl

  rest : drop 3 (drop 2 fs) ≡ drop 5 fs
  rest = drop-drop 3 2 fs

  pub out_at : line_out (drop 2 fs) ≡ acts_form loc_field Out fs
  unfolding line_out acts_form
  out_at = rw (word 1, word 2, rest) refl

  pub get_at : (kind : ℕ → Loc → List Slot → Line) → line_get kind (drop 2 fs) ≡ acts_form slot_field kind fs
  unfolding line_get acts_form
  get_at kind = rw (word 1, word 2, rest) refl

  pub eval_at : line_eval (drop 2 fs) ≡ given (eqb (length fs) 7) (number (at fs 3) >>= λ a. loc_field (at fs 4) >>= λ g. number (at fs 5) >>= λ b. number (at fs 6) >>= λ k. some (Eval a g b k))
  unfolding line_eval
  eval_at = rw (behind 5 fs (omega arith), word 1, word 2, word 3, word 4) refl

  pub accept_at : line_accept (drop 2 fs) ≡ given (eqb (length fs) 5) (number (at fs 3) >>= λ a. number (at fs 4) >>= λ k. some (Accept a k))
  unfolding line_accept
  accept_at = rw (behind 3 fs (omega arith), word 1, word 2) refl

-- the form of a line, by its word
module _ (fs : List (List ℕ)) (w : List ℕ) (W : w ≡ at fs 2) where
  is_word : (l : List ℕ) → true ≡ same w l → at (drop 2 fs) 0 ≡ l
  is_word l h = get_or-drop 2 fs 0 [] ∙ sym W ∙ same_eq w l (sym h)

  pub word_nil : true ≡ same w (110 ∷ 105 ∷ 108 ∷ []) → line_form (drop 2 fs) ≡ line_nil (drop 2 fs)
  unfolding line_form same text given otherwise ◌&◌
  word_nil h = rw (is_word (110 ∷ 105 ∷ 108 ∷ []) h) (otherwise_none (line_nil (drop 2 fs)))

  pub word_par : true ≡ same w (112 ∷ 97 ∷ 114 ∷ []) → line_form (drop 2 fs) ≡ line_par (drop 2 fs)
  unfolding line_form same text given otherwise ◌&◌
  word_par h = rw (is_word (112 ∷ 97 ∷ 114 ∷ []) h) (otherwise_none (line_par (drop 2 fs)))

  pub word_rep : true ≡ same w (114 ∷ 101 ∷ 112 ∷ []) → line_form (drop 2 fs) ≡ line_rep (drop 2 fs)
  unfolding line_form same text given otherwise ◌&◌
  word_rep h = rw (is_word (114 ∷ 101 ∷ 112 ∷ []) h) (otherwise_none (line_rep (drop 2 fs)))

  pub word_out : true ≡ same w (111 ∷ 117 ∷ 116 ∷ []) → line_form (drop 2 fs) ≡ line_out (drop 2 fs)
  unfolding line_form same text given otherwise ◌&◌
  word_out h = rw (is_word (111 ∷ 117 ∷ 116 ∷ []) h) (otherwise_none (line_out (drop 2 fs)))

  pub word_in : true ≡ same w (105 ∷ 110 ∷ []) → line_form (drop 2 fs) ≡ line_get In (drop 2 fs)
  unfolding line_form same text given otherwise ◌&◌
  word_in h = rw (is_word (105 ∷ 110 ∷ []) h) (otherwise_none (line_get In (drop 2 fs)))

  pub word_read : true ≡ same w (114 ∷ 101 ∷ 97 ∷ 100 ∷ []) → line_form (drop 2 fs) ≡ line_get Read (drop 2 fs)
  unfolding line_form same text given otherwise ◌&◌
  word_read h = rw (is_word (114 ∷ 101 ∷ 97 ∷ 100 ∷ []) h) (otherwise_none (line_get Read (drop 2 fs)))

  pub word_eval : true ≡ same w (101 ∷ 118 ∷ 97 ∷ 108 ∷ []) → line_form (drop 2 fs) ≡ line_eval (drop 2 fs)
  unfolding line_form same text given otherwise ◌&◌
  word_eval h = rw (is_word (101 ∷ 118 ∷ 97 ∷ 108 ∷ []) h) (otherwise_none (line_eval (drop 2 fs)))

  pub word_accept : true ≡ same w (97 ∷ 99 ∷ 99 ∷ 101 ∷ 112 ∷ 116 ∷ []) → line_form (drop 2 fs) ≡ line_accept (drop 2 fs)
  unfolding line_form same text given otherwise ◌&◌
  word_accept h = rw (is_word (97 ∷ 99 ∷ 99 ∷ 101 ∷ 112 ∷ 116 ∷ []) h) refl

  pub word_none : false ≡ same w (110 ∷ 105 ∷ 108 ∷ []) → false ≡ same w (112 ∷ 97 ∷ 114 ∷ []) → false ≡ same w (114 ∷ 101 ∷ 112 ∷ []) → false ≡ same w (111 ∷ 117 ∷ 116 ∷ []) → false ≡ same w (105 ∷ 110 ∷ []) → false ≡ same w (114 ∷ 101 ∷ 97 ∷ 100 ∷ []) → false ≡ same w (101 ∷ 118 ∷ 97 ∷ 108 ∷ []) → false ≡ same w (97 ∷ 99 ∷ 99 ∷ 101 ∷ 112 ∷ 116 ∷ []) → none ≡ line_form (drop 2 fs)
  unfolding line_form text given otherwise
  word_none h0 h1 h2 h3 h4 h5 h6 h7 = rw (get_or-drop 2 fs 0 [], ← W, ← h0, ← h1, ← h2, ← h3, ← h4, ← h5, ← h6, ← h7) refl
