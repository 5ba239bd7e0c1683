-- Two behaviours that meet the statements do the same, to the last byte. Assumes nothing.
use mathlib.Core.Path.{◌≡◌, refl, sym, ◌∙◌}
use mathlib.Core.List.{List}
use Prim.Native.Nat.{ℕ, ◌-◌, ◌≤◌, min}
use lib.ListN.{length}
use Rattle.std.proofs.Common.{Result, Ok, Err}
use Rattle.rules.specs.declared.Hole.{Hole}
use Rattle.rules.specs.declared.Heap.{Heap}
use Rattle.rules.specs.declared.Refusal.{Refusal}
use Rattle.rules.specs.declared.Refusal.TheVariants.{BadOpening, AlreadyOpened, Unopened, OtherLength, NotSound, BadLayout, NoRoom, BadSpan, PastArena, BadStretch}
use Rattle.rules.specs.declared.Answer.{Answer}
use Rattle.rules.specs.declared.Answer.TheVariants.{Opened, Allocated, Freed, Resized, Extended, Listed, Room}
use Rattle.rules.specs.Kinds.{addr, place}
use Rattle.rules.specs.Changes.{Report}
use Rattle.rules.specs.Calls.{Call, opening, change, report, list, room, Outcome, refused, told, done}
use Rattle.rules.specs.Outcome.{After, Rows}
use Rattle.rules.specs.InWords.{SoundNumbers, Hold}
use Rattle.rules.specs.Runs.{Fits, Reader}
use Rattle.rules.specs.Behaviour.{Behaviour}
use Rattle.rules.specs.Statements.{SoundMeans, RefusalNumbers, UnopenedIs, Reads, ReadersDo, Statements, Determined}
use Rattle.rules.specs.Inner.{Bytes}
use Rattle.std.specs.Cmp.{both_ways}
use Rattle.rules.proofs.Cases.{by_eq}
use Rattle.demands.proofs.OneMemory.{one_memory}
use Rattle.demands.proofs.OneRow.{one_row}
use Rattle.demands.proofs.Verdict.{same_holes, entry}
use Rattle.demands.proofs.Settles.{no_rows, settled}

-- ---- numbers

module _ (b e : Behaviour) where
  refusal_same : RefusalNumbers b → RefusalNumbers e → (r : Refusal) → b.answer_numbers (Err r) ≡ e.answer_numbers (Err r)
  refusal_same p q BadOpening = p.one ∙ sym q.one
  refusal_same p q AlreadyOpened = p.two ∙ sym q.two
  refusal_same p q Unopened = p.three ∙ sym q.three
  refusal_same p q OtherLength = p.four ∙ sym q.four
  refusal_same p q NotSound = p.five ∙ sym q.five
  refusal_same p q BadLayout = p.six ∙ sym q.six
  refusal_same p q (NoRoom n) = p.seven n ∙ sym (q.seven n)
  refusal_same p q BadSpan = p.eight ∙ sym q.eight
  refusal_same p q PastArena = p.nine ∙ sym q.nine
  refusal_same p q BadStretch = p.ten ∙ sym q.ten

  answer_same : Statements b → Statements e → (a : Result Answer Refusal) → b.answer_numbers a ≡ e.answer_numbers a
  answer_same p q (Ok (Opened a n)) = p.answer_numbers.opens a n ∙ sym (q.answer_numbers.opens a n)
  answer_same p q (Ok (Allocated a n)) = p.answer_numbers.allocates a n ∙ sym (q.answer_numbers.allocates a n)
  answer_same p q (Ok (Freed x y)) = p.answer_numbers.frees x y ∙ sym (q.answer_numbers.frees x y)
  answer_same p q (Ok (Resized x y)) = p.answer_numbers.resizes x y ∙ sym (q.answer_numbers.resizes x y)
  answer_same p q (Ok (Extended x y)) = p.answer_numbers.extends x y ∙ sym (q.answer_numbers.extends x y)
  answer_same p q (Ok (Listed x y)) = p.answer_numbers.lists x y ∙ sym (q.answer_numbers.lists x y)
  answer_same p q (Ok (Room x y)) = p.answer_numbers.reports x y ∙ sym (q.answer_numbers.reports x y)
  answer_same p q (Err r) = refusal_same p.refusal_numbers q.refusal_numbers r

  reads_same : {h : Heap} {lo hi s u f : ℕ} → Reads b h lo hi s u f → Reads e h lo hi s u f → (x : Reader) → b.reading x h ≡ e.reading x h
  reads_same p q Reader.bottom = p.bottom ∙ sym q.bottom
  reads_same p q Reader.top = p.top ∙ sym q.top
  reads_same p q Reader.size = p.size ∙ sym q.size
  reads_same p q Reader.used = p.used ∙ sym q.used
  reads_same p q Reader.free_bytes = p.free_bytes ∙ sym q.free_bytes

  -- two numbers that cannot differ are equal
  reading_same : ReadersDo b → ReadersDo e → (x : Reader) (h : Heap) → b.reading x h ≡ e.reading x h
  reading_same p q x h =
      by_eq (b.reading x h) (e.reading x h)
      (λ same. same)
      (λ n.
      let unread : SoundNumbers h × (h.used ≤ h.top.0 - h.bottom.0) → ⊥ =
      λ s. n (reads_same ((p h).0 s.0 s.1) ((q h).0 s.0 s.1) x) in
      absurd (n (reads_same ((p h).1 unread) ((q h).1 unread) x)))

  sound_same : SoundMeans b → SoundMeans e → (h : Heap) (ks : List Hole) → b.sound h ks ≡ e.sound h ks
  sound_same p q h ks = both_ways _ _ (λ t. (q h ks).1 ((p h ks).0 t)) (λ t. (p h ks).1 ((q h ks).0 t))

  unopened_same : UnopenedIs b → UnopenedIs e → b.unopened ≡ e.unopened
  unopened_same p q =
      let base = p.base ∙ sym q.base in
      let len = p.len ∙ sym q.len in
      let bottom = p.bottom ∙ sym q.bottom in
      let top = p.top ∙ sym q.top in
      let first = p.first ∙ sym q.first in
      let pending = p.pending ∙ sym q.pending in
      let used = p.used ∙ sym q.used in
      λ i.
      record {
        base = addr (base i);
        len = len i;
        bottom = addr (bottom i);
        top = addr (top i);
        first = place (first i);
        pending = pending i;
        used = used i;
      }

-- ---- rows

module _ (b e : Behaviour) (sb : Statements b) (se : Statements e) (h : Heap) (m : List ℕ) (r : Rows) where
  list_rows : b.rows_after list h m r ≡ e.rows_after list h m r
  list_rows =
      entry b e sb se h m
      (λ x p q.
      (sb.refusals_keep list h m r x (p _ _ (sb.refusals_exactly list h m tt))).3
      ∙ sym (se.refusals_keep list h m r x (q _ _ (se.refusals_exactly list h m tt))).3)
      (λ p q g j same.
      let one = sb.list_does h m r g in
      let two = rw same at (se.list_does h m r j) in
      let n = min (length r.addrs) (length r.sizes) in
      let addrs = one_row (λ k. k.addr.0) (b.holes h m) n r.addrs _ _ one.1 two.1 in
      let sizes = one_row (λ k. k.size) (b.holes h m) n r.sizes _ _ one.2 two.2 in
      λ i. record { addrs = addrs i; sizes = sizes i })

  other_rows : (c : Call) → (c ≡ list → ⊥) → b.rows_after c h m r ≡ e.rows_after c h m r
  other_rows c n = sb.other_rows c h m r n ∙ sym (se.other_rows c h m r n)

  rows_same : (c : Call) → b.rows_after c h m r ≡ e.rows_after c h m r
  rows_same (opening base named) = other_rows (opening base named) (λ k. cc)
  rows_same (change c) = other_rows (change c) (λ k. cc)
  rows_same (report Report.list) = list_rows
  rows_same (report (Report.room align)) = other_rows (room align) (λ k. cc)

-- ---- answer, heap and arena

-- a call is refused, tells or does
pub by_outcome : {X : Type 0} (o : Outcome) → ((r : Refusal) → o ≡ refused r → X) → ((a : Answer) (ks : List Hole) → o ≡ told a ks → X)
    → ((a : Answer) (h : Heap) (ks : List Hole) → o ≡ done a h ks → X) → X
by_outcome (refused r) f g k = f r refl
by_outcome (told a ks) f g k = g a ks refl
by_outcome (done a h ks) f g k = k a h ks refl

after_is : (a d : After) → a.answer ≡ d.answer → a.heap ≡ d.heap → a.arena ≡ d.arena → a ≡ d
after_is a d p q r = λ i. record { answer = p i; heap = q i; arena = r i }

module _ (b e : Behaviour) (sb : Statements b) (se : Statements e) (c : Call) (h : Heap) (m : List ℕ) (f : Fits c) where
  -- the heads hold the new holes
  holds : (d : Behaviour) → Statements d → (a : Answer) (h' : Heap) (ks : List Hole) → d.outcome c h m ≡ done a h' ks
      → Hold h'.base.0 (d.after c h m).arena h'.first.0 ks
  holds d sd a h' ks o =
      let read = (sd.memory c h m a h' ks f o).3 in
      rw read at ((sd.holes_mean h' (d.after c h m).arena).1 (rw read (sd.sound_kept c h m a h' ks f o).0))

  after_same : Bytes m → b.after c h m ≡ e.after c h m
  after_same bytes =
      let one = b.after c h m in
      let two = e.after c h m in
      let o = settled b e sb se h m c f in
      by_outcome (b.outcome c h m)
      (λ r p.
      let s = sb.refusals_keep c h m no_rows r p in
      let t = se.refusals_keep c h m no_rows r (sym o ∙ p) in
      after_is one two (s.0 ∙ sym t.0) (s.1 ∙ sym t.1) (s.2 ∙ sym t.2))
      (λ a ks p.
      let s = sb.tells_only c h m a ks p in
      let t = se.tells_only c h m a ks (sym o ∙ p) in
      after_is one two (s.0 ∙ sym t.0) (s.1 ∙ sym t.1) (s.2 ∙ sym t.2))
      (λ a h' ks p.
      let q = sym o ∙ p in
      let s = sb.memory c h m a h' ks f p in
      let t = se.memory c h m a h' ks f q in
      after_is one two (s.0 ∙ sym t.0) (s.1 ∙ sym t.1)
      (one_memory h'.base.0 one.arena two.arena h'.first.0 ks (holds b sb a h' ks p) (holds e se a h' ks q)
      (sb.bytes_stay c h m bytes) (se.bytes_stay c h m bytes) (s.2 ∙ sym t.2) (λ i n. s.4 i n ∙ sym (t.4 i n))))

pub determined : Determined
determined b e sb se =
    record {
      unopened = unopened_same b e sb.unopened_is se.unopened_is;
      sound = sound_same b e sb.sound_means se.sound_means;
      holes = λ h m s. sym (same_holes b e sb se h m s);
      outcome = λ c h m f. settled b e sb se h m c f;
      after = λ c h m f bytes. after_same b e sb se c h m f bytes;
      rows = λ c h m r. rows_same b e sb se h m r c;
      readings = reading_same b e sb.readers_do se.readers_do;
      numbers = answer_same b e sb se;
    }
