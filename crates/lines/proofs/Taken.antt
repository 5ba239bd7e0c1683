-- The numbers of a line, as code takes them one by one, and the frame that they make. Assumes nothing.
use Rattle.std.proofs.Common.{◌≡◌, ◌∙◌, ◌&&◌, ◌++◌, ◌+◌, ◌≤◌, ◌<◌}
use Rattle.std.proofs.Common.{refl, sym, ap, true, false, List, [], Option, Some, None, ℕ, length, take, drop, slice_index, slice_set, get_or, Bool, length-append, get_or-set_other, get_or-set_same, below_more, arith}
use mathlib.Core.Path.{fun_ext}
use Rattle.std.proofs.lemmas.List.{take_at, drop_at, drop-drop, drop_all, get_or_past, get_or-take, length-take}
use lib.Dec.{eqb}
use borrow.Author.Tests.{eq-eqb, eqb-true}
use Rattle.std.specs.Cmp.{both_ways}
use Rattle.rules.proofs.Cases.{by_le}
use Rattle.lines.specs.Frames.{digits, value, number_at, number_of, frame_digits, Form, forms, form_of, formed, frame_of}
use Rattle.lines.specs.Read.{read, filled}
use Rattle.lines.proofs.Digits.{digits_append, read_some, read_none}
use Rattle.lines.proofs.Frames.{line_digits}

-- k numbers are taken, and what is left of the line decides if all are digits
pub record Taken (line numbers : List ℕ) (k : ℕ) (left : List ℕ) : Type 0 where
  pub left_is : left ≡ drop (frame_digits k) line
  pub whole : length line ≡ frame_digits k + length left
  pub same : digits line ≡ digits left
  pub each : (i : ℕ) → i < k → get_or numbers i 0 ≡ number_of line i

-- ---- one after the other

pub begun : (line front rest numbers : List ℕ) → line ≡ front ++ rest → length front ≡ 2 → digits front ≡ true → Taken line numbers 0 rest
begun line front rest numbers e l d =
    record {
      left_is = rw (e, drop_at front rest 2 l) refl;
      whole = rw e (simp length-append (omega arith));
      same = ap digits e ∙ digits_append front rest ∙ rw d refl;
      each = λ i m. absurd (omega arith);
    }

pub one_more : (line numbers x left left' : List ℕ) (k n : ℕ) → Taken line numbers k left → left ≡ x ++ left' → length x ≡ 16
    → read 0 x ≡ Some n → k < length numbers → Taken line (slice_set numbers k n) (k + 1) left'
one_more line numbers x left left' k n t e l r m =
    let (d, v) = read_some x n r in
    let at : frame_digits k + 16 ≡ frame_digits (k + 1) = omega arith in
    let here : number_of line k ≡ n =
    ap (λ (bs : List ℕ). value 0 (take 16 bs)) (sym t.left_is ∙ e) ∙ ap (value 0) (take_at x left' 16 l) ∙ v in
    record {
      left_is = sym (drop_at x left' 16 l) ∙ ap (drop 16) (sym e ∙ t.left_is) ∙ drop-drop 16 (frame_digits k) line
          ∙ ap (λ i. drop i line) at;
      whole = omega (arith, t.whole, ap length e, length-append x left');
      same = t.same ∙ ap digits e ∙ digits_append x left' ∙ rw d refl;
      each = below_more _ _ (λ i b. get_or-set_other numbers k i n 0 (λ q. omega arith) ∙ t.each i b)
          (get_or-set_same numbers k n 0 m ∙ sym here);
    }

-- ---- a part that is no number

no_number : (line part : List ℕ) → digits part ≡ false → ((b : Bool) × (digits line ≡ (digits part && b))) → frame_of line ≡ None
unfolding frame_of
no_number line part d (b, e) = rw (e, d) refl

pub no_call : (line front rest : List ℕ) → line ≡ front ++ rest → read 0 front ≡ None → frame_of line ≡ None
no_call line front rest e r = no_number line front (read_none front r) (digits rest, ap digits e ∙ digits_append front rest)

pub none_more : (line numbers x left left' : List ℕ) (k : ℕ) → Taken line numbers k left → left ≡ x ++ left' → read 0 x ≡ None
    → frame_of line ≡ None
none_more line numbers x left left' k t e r =
    no_number line x (read_none x r) (digits left', t.same ∙ ap digits e ∙ digits_append x left')

-- ---- all of them

-- behind the last there is no digit left, and the number there is 0 in both
number_same : (line numbers left : List ℕ) (k i : ℕ) → Taken line numbers k left → length left ≡ 0 → k ≤ length numbers
    → number_of line i ≡ slice_index (take k numbers) i
unfolding value
number_same line numbers left k i t e m =
    by_le k i
    (λ l.
    let none : drop (frame_digits i) line ≡ [] = drop_all (frame_digits i) line (omega (arith, t.whole)) in
    let past : get_or (take k numbers) i 0 ≡ 0 = get_or_past (take k numbers) i 0 (simp length-take (omega arith)) in
    rw (none, past) refl)
    (λ l. sym (get_or-take k numbers i 0 l ∙ t.each i l))

-- a form makes the same of the line and of its numbers
at_form : (line ns : List ℕ) → length line ≡ frame_digits (length ns) → number_of line ≡ slice_index ns → (o : Option Form)
    → formed line o ≡ filled ns o
unfolding formed filled
at_form line ns l e None = refl
at_form line ns l e (Some f) =
    let same : eqb (length line) (frame_digits f.count) ≡ eqb (length ns) f.count =
    both_ways _ _ (λ t. eq-eqb (length ns) f.count (omega (arith, eqb-true (length line) (frame_digits f.count) t)))
    (λ t. eq-eqb (length line) (frame_digits f.count) (omega (arith, eqb-true (length ns) f.count t))) in
    rw (same, e) refl

pub all_taken : (line numbers left : List ℕ) (k c : ℕ) → Taken line numbers k left → length left ≡ 0 → number_at line 0 2 ≡ c
    → k ≤ length numbers → filled (take k numbers) (form_of forms c) ≡ frame_of line
unfolding digits
all_taken line numbers left k c t n e m =
    let none : left ≡ [] = drop_all 0 left (omega arith) in
    let d : digits line ≡ true = t.same ∙ rw none refl in
    let long : length line ≡ frame_digits (length (take k numbers)) = simp length-take (omega (arith, t.whole)) in
    sym (line_digits line d ∙ ap (λ i. formed line (form_of forms i)) e
    ∙ at_form line (take k numbers) long (fun_ext (λ i. number_same line numbers left k i t n m)) (form_of forms c))
