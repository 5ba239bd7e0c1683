-- Hearing bytes comes to the transcript of their lines. Assumes nothing.
use mathlib.Core.Path.{◌≡◌, refl, sym, ap, ◌∙◌}
use mathlib.Core.List.{List, [], ◌∷◌, ◌++◌, append-nil, append_assoc, Memᴰ}
use Prim.Native.Nat.{ℕ}
use native.Mathlib.Omega.{arith}
use lib.ListN.{length, take, length-take}
use lib.Seq.{take_all}
use Rattle.rules.specs.declared.Heap.{Heap}
use Rattle.rules.proofs.Cases.{by_eq, by_le}
use Rattle.lines.specs.Frames.{frame_of}
use Rattle.lines.specs.Wire.{reply, replied}
use Rattle.lines.proofs.Frames.{line_longer}
use Rattle.talk.specs.Hearing.{lf, Come, hearing, heard}
use Rattle.talk.specs.Transcript.{NoEnd, sent, Transcript, at, Talks}
use Rattle.talk.proofs.Hearing.{heard_append, hearing_lf, hearing_other, keeps}

-- ---- a long line

pub long : (l : List ℕ) → frame_of (take 67 l) ≡ frame_of l
long l =
    by_le (length l) 67
    (λ h. ap frame_of (take_all 67 l h))
    (λ h.
    let k : length (take 67 l) ≡ 67 = simp length-take (omega arith) in
    line_longer (take 67 l) (omega arith) ∙ sym (line_longer l (omega arith)))

-- ---- lines

-- a line and the LF behind it
line_heard : (l : List ℕ) (h : Heap) (m waits : List ℕ) → NoEnd l
    → heard (l ++ (10 ∷ [])) (at h m [] waits) ≡ at (replied l h m).heap (replied l h m).arena [] (waits ++ (replied l h m).printed)
unfolding heard
line_heard l h m waits n =
    heard_append l (10 ∷ []) (at h m [] waits)
    ∙ ap (heard (10 ∷ [])) (keeps l [] h m waits n (omega arith))
    ∙ hearing_lf 10 (at h m (take 67 l) waits) refl
    ∙ ap (λ f. let r = reply f h m in at r.heap r.arena [] (waits ++ r.printed)) (long l)

lines : (ls : List (List ℕ)) (rest : List ℕ) (h h' : Heap) (m m' waits answers : List ℕ) → ((l : List ℕ) → Memᴰ l ls → NoEnd l)
    → NoEnd rest
    → Transcript ls h m answers h' m'
    → heard (sent ls ++ rest) (at h m [] waits) ≡ at h' m' (take 67 rest) (waits ++ answers)
unfolding sent
lines [] rest h h' m m' waits answers ns n Transcript.end = keeps rest [] h m waits n (omega arith) ∙ ap (at h m (take 67 rest)) (sym (append-nil waits))
lines (l ∷ ls) rest h h' m m' waits _ ns n (Transcript.next {answers = answers} t) =
    let r = replied l h m in
    ap (λ (bs : List ℕ). heard bs (at h m [] waits)) (append_assoc l (10 ∷ sent ls) rest ∙ sym (append_assoc l (10 ∷ []) (sent ls ++ rest)))
    ∙ heard_append (l ++ (10 ∷ [])) (sent ls ++ rest) (at h m [] waits)
    ∙ ap (heard (sent ls ++ rest)) (line_heard l h m waits (ns l (Memᴰ.head refl)))
    ∙ lines ls rest r.heap h' r.arena m' (waits ++ r.printed) answers (λ k i. ns k (Memᴰ.tail i)) n t
    ∙ ap (at h' m' (take 67 rest)) (append_assoc waits r.printed answers)

-- ---- the answers that wait

hearing_waits : (b : ℕ) (c : Come) → (answers : List ℕ) × ((hearing b c).waits ≡ c.waits ++ answers)
hearing_waits b c =
    by_eq b lf
    (λ e. ((replied c.kept c.heap c.arena).printed, ap (λ (d : Come). d.waits) (hearing_lf b c e)))
    (λ n. ([], ap (λ (d : Come). d.waits) (hearing_other b c n) ∙ sym (append-nil c.waits)))

waits : (bytes : List ℕ) (c : Come) → (answers : List ℕ) × ((heard bytes c).waits ≡ c.waits ++ answers)
unfolding heard
waits [] c = ([], sym (append-nil c.waits))
waits (b ∷ bs) c =
    let one = hearing_waits b c in
    let more = waits bs (hearing b c) in (
      one.0 ++ more.0,
      more.1 ∙ ap (λ (w : List ℕ). w ++ more.0) one.1 ∙ append_assoc c.waits one.0 more.0,
    )

pub talks : Talks
talks = record { pieces = heard_append; lines = lines; waits = waits; long = long }
