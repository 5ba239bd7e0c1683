-- What a line comes to: the call that it is, and what that call prints and leaves. Assumes nothing.
use Rattle.std.specs.Prelude.{Some}
use mathlib.Core.Path.{◌≡◌, sym, ap, ◌∙◌}
use mathlib.Core.Bool.{false}
use mathlib.Core.List.{List}
use Prim.Native.Nat.{ℕ, ◌≤◌}
use lib.ListN.{take}
use Rattle.rules.specs.Changes.{Report}
use Rattle.rules.specs.Calls.{Call, list}
use Rattle.rules.specs.Answers.{answer_numbers}
use Rattle.rules.specs.Outcome.{outcome, after, Is}
use Rattle.rules.specs.declared.Heap.{Heap}
use Rattle.rules.specs.declared.Done.{Done}
use Rattle.lines.specs.declared.reading.Frame.{Frame}
use Rattle.lines.specs.Frames.{frame_of}
use Rattle.lines.specs.Wire.{Reply, numbers_line, spoken, reply_to, reply, replied, longest, Answers}
use Rattle.lines.specs.declared.Replied.{Replied}
use Rattle.lines.proofs.Spoken.{lists, spoken_line, report_stays}

-- ---- a call

-- one that prints one line
pub replied_line : (c : Call) (h : Heap) (m : List ℕ) (r : Replied) (out : List ℕ) {a : Reply} {d : Done} {m' : List ℕ}
    → a ≡ reply_to c h m → lists c ≡ false → Is (after c h m) d m'
    → (r.heap ≡ d.heap) × (take r.len out ≡ numbers_line (answer_numbers d.answer)) × (r.len ≤ longest) → Answers a r out m'
replied_line c h m r out e q i t = rw e (t.0 ∙ i.1, t.1 ∙ rw i.0 (sym (spoken_line c h m q)), i.2, t.2)

-- the list
pub replied_list : (h : Heap) (m : List ℕ) (r : Replied) (out : List ℕ) {a : Reply}
    → a ≡ reply_to list h m → (r.heap ≡ h) × (take r.len out ≡ spoken (outcome list h m)) × (r.len ≤ longest) → Answers a r out m
replied_list h m r out e t = let s = report_stays Report.list h m in rw e (t.0 ∙ s.0, t.1, s.1, t.2)

-- ---- a line that is read as a call

-- it comes to what the call does
comes_to : (line : List ℕ) (c : Call) (h : Heap) (m : List ℕ) {f g : Frame} → Some f ≡ frame_of line → f ≡ g
    → reply (Some g) h m ≡ reply_to c h m → replied line h m ≡ reply_to c h m
comes_to line c h m e i k = ap (λ o. reply o h m) (sym e ∙ ap Some i) ∙ k

-- a call that prints one line
pub line_answered : (line : List ℕ) (c : Call) (h : Heap) (m : List ℕ) (r : Replied) (out : List ℕ) {f g : Frame} {d : Done} {m' : List ℕ}
    → Some f ≡ frame_of line → f ≡ g → reply (Some g) h m ≡ reply_to c h m → lists c ≡ false → Is (after c h m) d m'
    → (r.heap ≡ d.heap) × (take r.len out ≡ numbers_line (answer_numbers d.answer)) × (r.len ≤ longest)
    → Answers (replied line h m) r out m'
line_answered line c h m r out e j k = replied_line c h m r out (comes_to line c h m e j k)

-- the list
pub list_answered : (line : List ℕ) (h : Heap) (m : List ℕ) (r : Replied) (out : List ℕ) {f g : Frame}
    → Some f ≡ frame_of line → f ≡ g → reply (Some g) h m ≡ reply_to list h m
    → (r.heap ≡ h) × (take r.len out ≡ spoken (outcome list h m)) × (r.len ≤ longest) → Answers (replied line h m) r out m
list_answered line h m r out e j k = replied_list h m r out (comes_to line list h m e j k)
