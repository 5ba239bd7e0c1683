-- Frames by their call's byte: how long they can be, and which lines are none. Assumes nothing.
use Rattle.std.proofs.Common.{◌≡◌, refl, Bool, true, ◌&&◌, List, [], ◌∷◌, Option, Some, None, ℕ, ◌≤◌, ◌<◌, length, arith}
use Rattle.std.specs.Option.{IfSome}
use lib.Dec.{eqb, leb}
use borrow.Author.Tests.{leb-true, eq-eqb, ne_eqb}
use Rattle.std.proofs.lemmas.Bool.{and_parts, cond_both}
use Rattle.lines.specs.Frames.{digits, number_at, number_of, frame_digits, Form, forms, form_of, most_numbers, formed, framed, frame_of}

-- ---- no call has more numbers than the most

few : List Form → Bool
few [] = true
few (f ∷ fs) = leb f.count most_numbers && few fs

form_few : (fs : List Form) (c : ℕ) → few fs ≡ true → IfSome (form_of fs c) (λ f. f.count ≤ most_numbers)
unfolding form_of few
form_few [] c e = tt
form_few (f ∷ fs) c e =
    cond_both (eqb c f.call) (Some f) (form_of fs c) (λ (o : Option Form). IfSome o (λ g. g.count ≤ most_numbers))
    (λ q. leb-true f.count most_numbers (and_parts (leb f.count most_numbers) (few fs) e).0)
    (λ q. form_few fs c (and_parts (leb f.count most_numbers) (few fs) e).1)

pub count_most : (c : ℕ) → IfSome (form_of forms c) (λ f. f.count ≤ most_numbers)
unfolding few
count_most c = form_few forms c refl

-- ---- what is no call

abbrev pub NoCall : List Form → ℕ → Type 0
NoCall [] c = Unit {0}
NoCall (f ∷ fs) c = (c ≡ f.call → ⊥) × NoCall fs c

pub no_form : (fs : List Form) (c : ℕ) → NoCall fs c → form_of fs c ≡ None
unfolding form_of
no_form [] c p = refl
no_form (f ∷ fs) c p = rw (ne_eqb c f.call p.0) (no_form fs c p.1)

-- ---- lines

-- a line of digits is read by its call's byte
pub line_digits : (line : List ℕ) → digits line ≡ true → frame_of line ≡ framed line (number_at line 0 2)
unfolding frame_of
line_digits line e = rw e

-- at its form's length it is a frame
pub right_length : (line : List ℕ) (f : Form) → length line ≡ frame_digits f.count → formed line (Some f) ≡ Some (f.frame (number_of line))
unfolding formed
right_length line f e = rw (eq-eqb (length line) (frame_digits f.count) e)

-- at another length it is none
pub other_length : (line : List ℕ) (c : ℕ) (f : Form) → form_of forms c ≡ Some f → (length line ≡ frame_digits f.count → ⊥)
    → framed line c ≡ None
unfolding formed
other_length line c f e n = rw (e, ne_eqb (length line) (frame_digits f.count) n)

-- and so it is at any length, if its byte is no call
pub other_call : (line : List ℕ) (c : ℕ) → NoCall forms c → framed line c ≡ None
unfolding formed
other_call line c p = rw (no_form forms c p)

-- a line of no frame's length is none, whatever its bytes are
pub no_length : (line : List ℕ) → ((n : ℕ) → n ≤ most_numbers → length line ≡ frame_digits n → ⊥) → frame_of line ≡ None
unfolding frame_of formed
no_length line other =
    cond_both (digits line) (framed line (number_at line 0 2)) None (λ o. o ≡ None)
    (λ e. none (form_of forms (number_at line 0 2)) (count_most (number_at line 0 2))) (λ e. refl)
  where
    none : (o : Option Form) → IfSome o (λ f. f.count ≤ most_numbers) → formed line o ≡ None
    none None l = refl
    none (Some f) l = rw (ne_eqb (length line) (frame_digits f.count) (other f.count l))

-- and so is a longer one
pub line_longer : (line : List ℕ) → frame_digits most_numbers < length line → frame_of line ≡ None
line_longer line l = no_length line (λ n m e. omega arith)
