-- What is known of a box in an honest run, and kept by each call: holes and held blocks fill the heap, each held block has a valid layout, and
-- its address suits it. Assumes nothing.
use mathlib.Core.Path.{◌≡◌, refl, ap}
use mathlib.Core.Bool.{true, false}
use mathlib.Core.List.Memᴰ
use mathlib.Core.List.{List, [], ◌∷◌, Memᴰ}
use mathlib.Core.Logic.{⊎_elim}
use Prim.Native.Nat.{ℕ, ◌+◌, ◌-◌, ◌%◌, ◌^◌, ◌<◌}
use native.Mathlib.Omega.{arith}
use lib.Dec.{eqb, ltb}
use borrow.Author.Tests.{eqb-true, eq-eqb, not-false}
use Rattle.rules.specs.declared.Addr.{Addr}
use Rattle.rules.specs.Fixed.{min_size, grain}
use Rattle.rules.specs.Round.{down_to}
use Rattle.rules.specs.Tests.{any}
use Rattle.rules.specs.Kinds.{addr, plus, same}
use Rattle.rules.specs.Holes.{hole, end}
use Rattle.rules.specs.Sound.{sound_holes}
use Rattle.rules.specs.Allocate.{rounded, Found, nothing, found, find}
use Rattle.rules.specs.Resize.{stretch_end}
use Rattle.rules.specs.Changes.{Change}
use Rattle.rules.specs.Calls.{Call, opening, change, report, allocate, extend, Outcome, only_hole, opened, taken, given, refitted, grown, gathered, extended, accepted}
use Rattle.rules.specs.Refusals.{refusal6, change_tests, tests}
use Rattle.rules.specs.Answers.{answer_numbers}
use Rattle.rules.specs.Runs.{Fits, Ask, calls, reads, AllFit, Block, block, same_block, without, Box, start, held_after, comes_to, box_after, next_box, ends, HonestCall, Honest}
use Rattle.rules.specs.InWords.{Valid}
use Rattle.std.proofs.lemmas.Bool.{cond_both, or_parts}
use Rattle.rules.proofs.Cases.{apart, all_each, each_all}
use Rattle.rules.proofs.Layouts.{rounded_multiple, rounded_least, layout_passed}
use Rattle.rules.proofs.Gaps.{gap_words}
use Rattle.rules.proofs.ResizeWords.{resize_added}
use Rattle.rules.proofs.SoundWords.{rounded_rounds, holes_words}
use Rattle.rules.proofs.Passes.{Passes, by_decided}
use Rattle.rules.proofs.Used.{find_splits}
use Rattle.rules.proofs.Suits.{candidate_eight, found_lies}
use Rattle.rules.proofs.SoundKept.{Stands, passed_opened}
use Rattle.rules.proofs.Totals.{added, freed_added, used_added}
use Rattle.rules.proofs.Cover.{once, cover, once_behind, joined_once, once_adds}
use Rattle.demands.proofs.Tiling.{span, spans, range, Filled}

-- ---- the held blocks, one taken out

same_block_lem : (b c : Block) → same_block b c ≡ true → b ≡ c
unfolding same_block
same_block_lem b c e =
    let r = all_each (same b.addr c.addr ∷ eqb b.size c.size ∷ eqb b.align c.align ∷ []) e in
    let x : b.addr ≡ c.addr = ap addr (eqb-true b.addr.0 c.addr.0 r.0) in
    let s = eqb-true b.size c.size r.1.0 in
    let a = eqb-true b.align c.align r.1.1.0 in
    known c x s a
  where
    -- a block is known by its three numbers
    known : (c : Block) {x : Addr} {s a : ℕ} → x ≡ c.addr → s ≡ c.size → a ≡ c.align → block x s a ≡ c
    known c p q r = rw (p, q, r)

block_same : (b : Block) → same_block b b ≡ true
unfolding same_block
block_same b =
    each_all (same b.addr b.addr ∷ eqb b.size b.size ∷ eqb b.align b.align ∷ [])
    (eq-eqb b.addr.0 b.addr.0 refl, (eq-eqb b.size b.size refl, (eq-eqb b.align b.align refl, tt)))

without_cover : (y : ℕ) (b : Block) (bs : List Block) → Memᴰ b bs
    → cover y (spans (without b bs)) + once y (span b) ≡ cover y (spans bs)
unfolding without added
without_cover y b [] m = absurd (Memᴰ.not-nil m)
without_cover y b (c ∷ cs) m =
    cond_both (same_block b c) cs (c ∷ without b cs)
    (λ (ds : List Block). cover y (spans ds) + once y (span b) ≡ once y (span c) + cover y (spans cs))
    (λ e. rw (same_block_lem b c e) (omega arith))
    (λ e.
    ⊎_elim
    (λ (q : b ≡ c). apart (rw q (block_same c)) e)
    (λ (t : Memᴰ b cs). omega (arith, without_cover y b cs t))
    (Memᴰ.cases_cons m))

without_member : (b : Block) (bs : List Block) (k : Block) → Memᴰ k (without b bs) → Memᴰ k bs
unfolding without
without_member b [] k = λ m. m
without_member b (c ∷ cs) k =
    cond_both (same_block b c) cs (c ∷ without b cs) (λ (ds : List Block). Memᴰ k ds → Memᴰ k (c ∷ cs))
    (λ e m. Memᴰ.tail m)
    (λ e m. ⊎_elim (λ q. Memᴰ.head q) (λ t. Memᴰ.tail (without_member b cs k t)) (Memᴰ.cases_cons m))

-- ---- what is known of a box

-- a block with a valid layout, at an address that suits it
pub record Suited (b : Block) : Type 0 where
  pub valid : Valid b.size b.align (rounded b.size)
  pub eight : b.addr.0 % grain ≡ 0
  pub multiple : b.addr.0 % b.align ≡ 0

pub record Settled (b : Box) : Type 0 where
  pub filled : Filled b
  pub each : (k : Block) → Memᴰ k b.held → Suited k

pub start_settled : Settled start
unfolding added
start_settled =
    record {
      filled = λ y. omega (arith, once_behind y (hole (addr 0) 0) (omega arith));
      each = λ k m. absurd (Memᴰ.not-nil m);
    }

passed_valid : (s align : ℕ) → align < 2 ^ 64 → any (refusal6 s align) ≡ false → Valid s align (rounded s)
passed_valid s align l e =
    let v = layout_passed s align l e in record { fits = l; power = v.power; rounds = rounded_rounds s; room = v.room }

-- ---- call by call

module _ (b : Box) (settled : Settled b) where
  taken_settled : (s align : ℕ) (f : Found) → Valid s align (rounded s) → sound_holes b.heap b.holes ≡ true
      → find (rounded s) align b.holes ≡ f
      → Settled (box_after (allocate s align) b (taken (rounded s) align b.heap b.holes f))
  unfolding taken box_after held_after answer_numbers added
  taken_settled s align nothing v sound e = settled
  taken_settled s align (found front k back) v sound e =
      let r = rounded s in
      let parts = find_splits r align b.holes front back k e in
      let lies = found_lies r align v.power b.holes front back k e in
      let k8 = ((holes_words b.heap b.holes sound).each k (rw parts.0 (Memᴰ.append_right front (Memᴰ.head refl)))).place in
      record {
        filled =
            λ y.
            omega (
              arith,
              rw parts.0 at (settled.filled y),
              used_added (once_adds y) r align k lies.from lies.to front back,
            );
        each =
            λ j m.
            ⊎_elim
            (λ q. rw q (record { valid = v; eight = candidate_eight align k.addr v.power k8; multiple = lies.multiple }))
            (λ t. settled.each j t)
            (Memᴰ.cases_cons m);
      }

  change_settled : (c : Change) (n : ℕ) → Fits (change c) → Stands n b.heap b.holes → Passes (change_tests c b.heap b.holes)
      → HonestCall (change c) (accepted (change c) n b.heap b.holes) b
      → Settled (box_after (change c) b (accepted (change c) n b.heap b.holes))
  unfolding accepted given refitted extended gathered grown box_after held_after added
  change_settled (Change.allocate s align) n f st p t =
      taken_settled s align (find (rounded s) align b.holes) (passed_valid s align f.1 p.0) st.sound refl
  change_settled (Change.free x s align) n f st p t =
      record {
        filled =
            λ y.
            omega (
              arith,
              settled.filled y,
              freed_added (once_adds y) (hole x (rounded s)) b.holes,
              without_cover y (block x s align) b.held (t _ _ _ refl),
            );
        each = λ j m. settled.each j (without_member (block x s align) b.held j m);
      }
  change_settled (Change.resize x s align q) n f st p t =
      let held = t _ _ _ refl in
      let g = hole x (rounded s) in
      let suited = settled.each (block x s align) held in
      let d = gap_words (plus x (rounded q)) (stretch_end g b.holes) (not-false _ (or_parts _ _ p.1.1.1.0).0) in
      record {
        filled =
            λ y.
            omega (
              arith,
              settled.filled y,
              resize_added b.heap st.ruled.fair b.holes g align p.1.1.0 st.sound (rounded_multiple s) (rounded_least s) (rounded q)
                  (rounded_multiple q) (rounded_least q) d y,
              without_cover y (block x s align) b.held held,
            );
        each =
            λ j m.
            ⊎_elim
            (λ e. rw e (record { valid = passed_valid q align f.2 p.1.0; eight = suited.eight; multiple = suited.multiple }))
            (λ i. settled.each j (without_member (block x s align) b.held j i))
            (Memᴰ.cases_cons m);
      }
  change_settled (Change.extend by) n fit st p t =
      let h = b.heap in
      let f = st.ruled.fair in
      let s = down_to grain (h.pending + by) in
      cond_both (ltb (h.pending + by) min_size) _ _ (λ (o : Outcome). Settled (box_after (extend by) b o))
      (λ e. record { filled = settled.filled; each = settled.each })
      (λ e.
      let size : (h.top.0 - h.bottom.0) + s ≡ h.top.0 + s - h.bottom.0 = omega arith in
      record {
        filled =
            λ y.
            omega (
              arith,
              settled.filled y,
              freed_added (once_adds y) (hole h.top s) b.holes,
              rw size at (joined_once y (range h) (hole h.top s) (omega arith)),
            );
        each = settled.each;
      })

  accepted_settled : (c : Call) (n : ℕ) → Fits c → Passes (tests c n b.heap b.holes) → HonestCall c (accepted c n b.heap b.holes) b
      → Settled (box_after c b (accepted c n b.heap b.holes))
  unfolding tests accepted box_after held_after opened added
  accepted_settled (opening base named) n f p t =
      let k = only_hole base named in
      let size : (end k).0 - k.addr.0 ≡ k.size = omega arith in
      record { filled = λ y. rw size (omega arith); each = λ k m. absurd (Memᴰ.not-nil m) }
  accepted_settled (change c) n f p t =
      let (st, q) = passed_opened n b.heap b.holes (change_tests c b.heap b.holes) p in change_settled c n f st q t
  accepted_settled (report r) n f p t = settled

-- a refusal changes no box
call_settled : (c : Call) (n : ℕ) (b : Box) → Fits c → HonestCall c (comes_to c n b) b → Settled b → Settled (box_after c b (comes_to c n b))
unfolding box_after
call_settled c n b f t settled =
    by_decided (λ (o : Outcome). HonestCall c o b → Settled (box_after c b o)) c n b.heap b.holes (λ r u. settled)
    (accepted_settled b settled c n f) t

pub ends_settled : (asks : List Ask) (b : Box) → AllFit asks → Honest asks b → Settled b → Settled (ends asks b)
unfolding ends next_box
ends_settled [] b f t settled = settled
ends_settled (calls c r n ∷ asks) b f t settled =
    ends_settled asks (next_box (calls c r n) b) f.1 t.1 (call_settled c n b f.0 t.0 settled)
ends_settled (reads x ∷ asks) b f t settled = ends_settled asks b f t.1 settled
