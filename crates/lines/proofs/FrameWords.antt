-- Frames: what is read is what the words say. Assumes nothing.
use mathlib.Core.Path.{◌≡◌, refl, sym, ap, ◌∙◌}
use mathlib.Core.Bool.{true}
use mathlib.Core.List.{List, [], ◌∷◌}
use Rattle.std.specs.Prelude.{Option, Some, None}
use Rattle.std.specs.Option.{IfSome}
use Rattle.std.proofs.lemmas.Option.{none-some, same_Some}
use Prim.Native.Nat.{ℕ, ◌+◌, ◌*◌}
use native.Mathlib.Omega.{arith}
use lib.Dec.{eqb}
use lib.ListN.{length}
use borrow.Author.Tests.{eqb-true}
use Rattle.std.proofs.lemmas.Bool.{cond_both}
use Rattle.lines.specs.declared.reading.Frame.{Frame}
use Rattle.lines.specs.declared.reading.Frame.TheVariants as is
use Rattle.lines.specs.Frames.{digits, number_at, number_of, frame_digits, Form, forms, form_of, formed, framed, frame_of}
use Rattle.lines.specs.Format.{Spells, IsFrame}
use Rattle.lines.specs.Statements.{ReadsExactly, BadExactly, OneCall, OneSpelling, FrameDigits}
use Rattle.lines.proofs.Frames.{right_length, line_digits}
use Rattle.lines.proofs.Spelled.{parts, spells_one, numbers_from, spells_from}

-- ---- a call's frame is read as the call

at_form : (bytes : List ℕ) (c : ℕ) (ns : List ℕ) (f : Form) → Spells bytes c ns → form_of forms c ≡ Some f → length ns ≡ f.count
    → frame_of bytes ≡ Some (f.frame (number_of bytes))
at_form bytes c ns f s e n =
    let p = parts bytes c ns s in
    line_digits bytes p.all
    ∙ ap (λ i. formed bytes (form_of forms i)) p.call
    ∙ ap (formed bytes) e
    ∙ right_length bytes f (p.long ∙ ap (λ i. 2 + 16 * i) n)

pub reads : (bytes : List ℕ) (f : Frame) → IsFrame bytes f → frame_of bytes ≡ Some f
unfolding form_of
reads bytes (is.Open base named) s =
    let e = (parts bytes 1 (base ∷ named ∷ []) s).each in
    at_form bytes 1 (base ∷ named ∷ []) _ s refl refl ∙ rw (e 0 (omega arith), e 1 (omega arith))
reads bytes (is.Allocate n align) s =
    let e = (parts bytes 2 (n ∷ align ∷ []) s).each in
    at_form bytes 2 (n ∷ align ∷ []) _ s refl refl ∙ rw (e 0 (omega arith), e 1 (omega arith))
reads bytes (is.Free a n align) s =
    let e = (parts bytes 3 (a ∷ n ∷ align ∷ []) s).each in
    at_form bytes 3 (a ∷ n ∷ align ∷ []) _ s refl refl ∙ rw (e 0 (omega arith), e 1 (omega arith), e 2 (omega arith))
reads bytes (is.Extend by) s =
    at_form bytes 4 (by ∷ []) _ s refl refl ∙ rw ((parts bytes 4 (by ∷ []) s).each 0 (omega arith))
reads bytes is.List s = at_form bytes 5 [] _ s refl refl
reads bytes (is.Room align) s =
    at_form bytes 6 (align ∷ []) _ s refl refl ∙ rw ((parts bytes 6 (align ∷ []) s).each 0 (omega arith))
reads bytes (is.Resize a n align m) s =
    let e = (parts bytes 7 (a ∷ n ∷ align ∷ m ∷ []) s).each in
    at_form bytes 7 (a ∷ n ∷ align ∷ m ∷ []) _ s refl refl
    ∙ rw (e 0 (omega arith), e 1 (omega arith), e 2 (omega arith), e 3 (omega arith))

-- ---- and what is read as a call is its frame

-- the frame that is made of a line, if one is, is the line's
abbrev Read : List ℕ → Option Frame → Type 0
Read bytes o = IfSome o (IsFrame bytes)

-- and so is each that a form makes, if the byte is that of the form
abbrev EachForm : List ℕ → ℕ → List Form → Type 0
EachForm bytes c [] = Unit {0}
EachForm bytes c (f ∷ fs) =
    (c ≡ f.call → length bytes ≡ frame_digits f.count → IsFrame bytes (f.frame (number_of bytes))) × EachForm bytes c fs

each_form : (bytes : List ℕ) (c : ℕ) (fs : List Form) → EachForm bytes c fs → Read bytes (formed bytes (form_of fs c))
unfolding formed form_of
each_form bytes c [] p = tt
each_form bytes c (f ∷ fs) p =
    cond_both (eqb c f.call) (Some f) (form_of fs c) (λ o. Read bytes (formed bytes o))
    (λ e. cond_both (eqb (length bytes) (frame_digits f.count)) (Some (f.frame (number_of bytes))) None (Read bytes)
    (λ l. p.0 (eqb-true c f.call e) (eqb-true (length bytes) (frame_digits f.count) l)) (λ l. tt))
    (λ e. each_form bytes c fs p.1)

good : (bytes : List ℕ) → digits bytes ≡ true → Read bytes (framed bytes (number_at bytes 0 2))
unfolding numbers_from
good bytes d =
    let from : (k c : ℕ) → number_at bytes 0 2 ≡ c → length bytes ≡ 2 + 16 * k → Spells bytes c (numbers_from bytes 0 k) =
    λ k c e l. rw e at (spells_from bytes k d l) in
    each_form bytes (number_at bytes 0 2) forms
    (from 2 1, (from 2 2, (from 3 3, (from 1 4, (from 0 5, (from 1 6, (from 4 7, tt)))))))

read_is : (bytes : List ℕ) → Read bytes (frame_of bytes)
unfolding frame_of
read_is bytes = cond_both (digits bytes) (framed bytes (number_at bytes 0 2)) None (Read bytes) (good bytes) (λ d. tt)

-- so whatever follows from either follows
pub by_read : {X : Type 0} (bytes : List ℕ) → ((f : Frame) → frame_of bytes ≡ Some f → IsFrame bytes f → X) → (frame_of bytes ≡ None → X)
    → X
by_read {X} bytes f g = split (frame_of bytes) (read_is bytes) f g
  where
    split : (o : Option Frame) → Read bytes o → ((f : Frame) → o ≡ Some f → IsFrame bytes f → X) → (o ≡ None → X) → X
    split None r f g = g refl
    split (Some k) r f g = f k refl r

-- ---- the statements

pub reads_exactly : ReadsExactly
reads_exactly bytes f = (reads bytes f, λ e. rw e at (read_is bytes))

pub bad_exactly : BadExactly
bad_exactly bytes =
    (λ n. by_read bytes (λ f e s. absurd (n f s)) (λ b. b), λ b f s. none-some f (sym b ∙ reads bytes f s))

pub one_call : OneCall
one_call bytes f g s t = same_Some f g (sym (reads bytes f s) ∙ reads bytes g t)

pub one_spelling : OneSpelling
one_spelling x y (is.Open base named) s t = spells_one x y 1 (base ∷ named ∷ []) s t
one_spelling x y (is.Allocate n align) s t = spells_one x y 2 (n ∷ align ∷ []) s t
one_spelling x y (is.Free a n align) s t = spells_one x y 3 (a ∷ n ∷ align ∷ []) s t
one_spelling x y (is.Extend by) s t = spells_one x y 4 (by ∷ []) s t
one_spelling x y is.List s t = spells_one x y 5 [] s t
one_spelling x y (is.Room align) s t = spells_one x y 6 (align ∷ []) s t
one_spelling x y (is.Resize a n align m) s t = spells_one x y 7 (a ∷ n ∷ align ∷ m ∷ []) s t

pub frame_digits_lem : FrameDigits
frame_digits_lem bytes (is.Open base named) s =
    let p = parts bytes 1 (base ∷ named ∷ []) s in
    let l = p.low in
    (p.long, (l.0, l.1.0))
frame_digits_lem bytes (is.Allocate n align) s =
    let p = parts bytes 2 (n ∷ align ∷ []) s in
    let l = p.low in
    (p.long, (l.0, l.1.0))
frame_digits_lem bytes (is.Free a n align) s =
    let p = parts bytes 3 (a ∷ n ∷ align ∷ []) s in
    let l = p.low in
    (p.long, (l.0, l.1.0, l.1.1.0))
frame_digits_lem bytes (is.Extend by) s = let p = parts bytes 4 (by ∷ []) s in (p.long, p.low.0)
frame_digits_lem bytes is.List s = ((parts bytes 5 [] s).long, tt)
frame_digits_lem bytes (is.Room align) s = let p = parts bytes 6 (align ∷ []) s in (p.long, p.low.0)
frame_digits_lem bytes (is.Resize a n align m) s =
    let p = parts bytes 7 (a ∷ n ∷ align ∷ m ∷ []) s in
    let l = p.low in
    (p.long, (l.0, l.1.0, l.1.1.0, l.1.1.1.0))
