-- Answers: what is printed is what the words say; and every call has a frame. Assumes nothing.
use Rattle.std.proofs.Common.{Ok}
use mathlib.Core.Path.{◌≡◌, refl, sym, ◌∙◌}
use mathlib.Core.List.{List, [], ◌∷◌, ◌++◌, append_assoc}
use Prim.Native.Nat.{ℕ, ◌^◌, ◌<◌}
use native.Mathlib.Omega.{arith}
use lib.ListN.{length-append}
use Rattle.rules.specs.Calls.{Outcome, refused, told, done}
use Rattle.rules.specs.Answers.{Numbers, refusal_numbers, answer_numbers}
use Rattle.rules.specs.declared.Hole.{Hole}
use Rattle.lines.specs.declared.reading.Frame.TheVariants as is
use Rattle.lines.specs.Lines.{hex, line}
use Rattle.lines.specs.Wire.{numbers_line, hole_lines, spoken}
use Rattle.lines.specs.Format.{InRow, Spells, IsLine, TellsNumbers, TellsHoles, Tells, Fit, HolesFit, OutcomeFits}
use Rattle.lines.specs.Statements.{EachCall, PrintsExactly, LineBytes, HolesExactly, SpeaksExactly}
use Rattle.lines.proofs.Worth.{hex_length, hex_says}
use Rattle.lines.proofs.Spelled.{AllLow, parts, spells_one}

-- ---- numbers that have room, spelled

row : List ℕ → List ℕ
row [] = []
row (n ∷ ns) = hex 16 n ++ row ns

row_says : (ns : List ℕ) → AllLow ns → InRow (row ns) ns
unfolding row
row_says [] l = refl
row_says (n ∷ ns) (l, ls) = (hex 16 n, row ns, refl, (hex_length 16 n, hex_says 16 n l), row_says ns ls)

says : (c : ℕ) (ns : List ℕ) → c < 2 ^ 8 → AllLow ns → Spells (hex 2 c ++ row ns) c ns
says c ns l ls = (hex 2 c, row ns, refl, (hex_length 2 c, hex_says 2 c l), row_says ns ls)

pub each_call : EachCall
each_call (is.Open base named) (l, k) = (_, says 1 (base ∷ named ∷ []) (omega arith) (l, (k, tt)))
each_call (is.Allocate n align) (l, k) = (_, says 2 (n ∷ align ∷ []) (omega arith) (l, (k, tt)))
each_call (is.Free a n align) (l, k, j) = (_, says 3 (a ∷ n ∷ align ∷ []) (omega arith) (l, (k, (j, tt))))
each_call (is.Extend by) l = (_, says 4 (by ∷ []) (omega arith) (l, tt))
each_call is.List l = (_, says 5 [] (omega arith) tt)
each_call (is.Room align) l = (_, says 6 (align ∷ []) (omega arith) (l, tt))
each_call (is.Resize a n align m) (l, k, j, i) = (_, says 7 (a ∷ n ∷ align ∷ m ∷ []) (omega arith) (l, (k, (j, (i, tt)))))

-- ---- a line

module _ (code one two : ℕ) where
  pub line_says : code < 2 ^ 8 → one < 2 ^ 64 → two < 2 ^ 64 → IsLine (line code one two) code one two
  unfolding line row
  line_says c l k = (hex 2 code ++ row (one ∷ two ∷ []), simp append_assoc, says code (one ∷ two ∷ []) c (l, (k, tt)))

  pub lines_one : (xs ys : List ℕ) → IsLine xs code one two → IsLine ys code one two → xs ≡ ys
  lines_one xs ys (d, e, s) (d', e', s') = rw (e, e', spells_one d d' code (one ∷ two ∷ []) s s')

pub line_bytes : LineBytes
line_bytes bytes code one two (d, e, s) =
    rw (e, length-append d (10 ∷ [])) (omega (arith, (parts d code (one ∷ two ∷ []) s).long))

pub prints_exactly : PrintsExactly
prints_exactly bytes code one two c l k =
    let s = line_says code one two c l k in
    (λ w. lines_one code one two bytes (line code one two) w s, λ e. rw e s)

-- ---- the list's lines

holes_say : (ks : List Hole) → HolesFit ks → TellsHoles (hole_lines ks) ks
unfolding hole_lines
holes_say [] l = refl
holes_say (k ∷ ks) (a, s, l) = (_, hole_lines ks, refl, line_says 0x20 k.addr.0 k.size (omega arith) a s, holes_say ks l)

holes_one : (xs ys : List ℕ) (ks : List Hole) → TellsHoles xs ks → TellsHoles ys ks → xs ≡ ys
holes_one xs ys [] e f = e ∙ sym f
holes_one xs ys (k ∷ ks) (first, rest, e, w, r) (first', rest', e', w', r') =
    rw (e, e', lines_one 0x20 k.addr.0 k.size first first' w w', holes_one rest rest' ks r r')

pub holes_exactly : HolesExactly
holes_exactly bytes ks l =
    let s = holes_say ks l in
    (λ w. holes_one bytes (hole_lines ks) ks w s, λ e. rw e s)

-- ---- what is printed of a call

numbers_say : (n : Numbers) → Fit n → TellsNumbers (numbers_line n) n
numbers_say n (c, l, k) = line_says n.no n.one n.two c l k

spoken_says : (o : Outcome) → OutcomeFits o → Tells (spoken o) o
unfolding spoken
spoken_says (refused r) l = numbers_say (refusal_numbers r) l
spoken_says (told a ks) (l, k) = (_, hole_lines ks, refl, numbers_say (answer_numbers (Ok a)) l, holes_say ks k)
spoken_says (done a h ks) l = numbers_say (answer_numbers (Ok a)) l

pub tells_one : (xs ys : List ℕ) (o : Outcome) → Tells xs o → Tells ys o → xs ≡ ys
tells_one xs ys (refused r) s t = lines_one _ _ _ xs ys s t
tells_one xs ys (told a ks) (first, rest, e, w, r) (first', rest', e', w', r') =
    rw (e, e', lines_one _ _ _ first first' w w', holes_one rest rest' ks r r')
tells_one xs ys (done a h ks) s t = lines_one _ _ _ xs ys s t

pub speaks_exactly : SpeaksExactly
speaks_exactly bytes o l =
    let s = spoken_says o l in
    (λ w. tells_one bytes (spoken o) o w s, λ e. rw e s)
