-- What comes of a call is settled by the statements: two behaviours that meet them come to the same, call by call. Assumes nothing.
use mathlib.Core.Path.{◌≡◌, refl, sym, subst, ◌∙◌}
use mathlib.Core.Bool.{Bool}
use Rattle.std.proofs.Common.{Decides}
use mathlib.Core.List.Memᴰ
use mathlib.Core.List.{List, []}
use mathlib.Core.Logic.{inl, inr, ⊎_elim}
use Prim.Native.Nat.{ℕ, ◌+◌, ◌^◌, ◌≤◌, ◌<◌}
use native.Mathlib.Omega.{arith}
use lib.ListN.{length}
use Rattle.rules.specs.declared.Addr.{Addr}
use Rattle.rules.specs.declared.Hole.{Hole}
use Rattle.rules.specs.declared.Heap.{Heap}
use Rattle.rules.specs.declared.Answer.{Answer}
use Rattle.rules.specs.Fixed.{grain}
use Rattle.rules.specs.Round.{Power, down_to}
use Rattle.rules.specs.Allocate.{rounded, candidate, find}
use Rattle.rules.specs.Changes.{Change, Report}
use Rattle.rules.specs.Calls.{Call, opening, change, report, allocate, free, resize, extend, list, room, Outcome, done}
use Rattle.rules.specs.Outcome.{Rows}
use Rattle.rules.specs.InWords.{SoundHoles, Rounds, Valid, RoomAt, NoLayout, NoSpan}
use Rattle.rules.specs.Runs.{Fits}
use Rattle.rules.specs.Behaviour.{Behaviour}
use Rattle.rules.specs.Statements.{Granted, Joined, Refitted, Statements}
use Rattle.rules.proofs.Cases.{cases, by_eq, by_le, apart}
use Rattle.rules.proofs.Multiples.{down_is}
use Rattle.rules.proofs.Powers.{power_pos, grain_power}
use Rattle.rules.proofs.SoundWords.{rounded_rounds, rounds_rounded, words_fair, words_holes, is_left}
use Rattle.rules.proofs.TestWords.{means_power, no_start, no_layout, no_span}
use Rattle.rules.specs.Holes.{hole}
use Rattle.rules.proofs.Walk.{floor_of, sound_walk}
use Rattle.rules.proofs.ResizeWords.{no_stretch}
use Rattle.rules.proofs.Suits.{by_found, nothing_room, found_room}
use Rattle.demands.proofs.OneHeap.{one_heap}
use Rattle.demands.proofs.OneList.{one_list, one_place}
use Rattle.demands.proofs.OneRow.{one_largest}
use Rattle.demands.proofs.Verdict.{entry}

-- ---- what can be told apart

-- a test decides what it means
pub decide : {P X : Type 0} {t : Bool} → Decides t P → (P → X) → ((P → ⊥) → X) → X
decide {t = t} m so else = cases t (λ e. so (m.0 e)) (λ e. else (λ p. apart (m.1 p) e))

-- what is not refused for its layout is valid
pub valid : (s align : ℕ) → align < 2 ^ 64 → (NoLayout s align → ⊥) → Valid s align (rounded s)
valid s align l n =
    record {
      fits = l;
      power = decide (means_power align l) (λ p. p) (λ k. absurd (n (inl k)));
      rounds = rounded_rounds s;
      room = by_le (rounded s + align) (2 ^ 63) (λ k. k) (λ k. absurd (n (inr (rounded s, rounded_rounds s, k))));
    }

-- there is room, or there is none
pub by_room : {X : Type 0} (r align : ℕ) (h : Heap) (ks : List Hole) → Power align → SoundHoles h ks
    → (((x : ℕ) × RoomAt r align ks x) → X) → (((x : ℕ) → RoomAt r align ks x → ⊥) → X) → X
by_room r align h ks p s some none =
    by_found (find r align ks)
    (λ e. none (nothing_room r align p ks (λ k t. (s.each k t).place) e))
    (λ front k back e. some ((candidate align k.addr).0, found_room r align p ks front back k e))

-- ---- what each statement fixes

-- a grant: the lowest address is one, so is the hole that it lies in, and so are the pieces
one_grant : (r align : ℕ) (h : Heap) (ks : List Hole) (o p : Outcome) → 1 ≤ r → SoundHoles h ks
    → Granted r align h ks o → Granted r align h ks p → o ≡ p
one_grant r align h ks o p pos s g k =
    let at : g.at ≡ k.at =
    omega (
      arith,
      g.lowest k.at (k.used, rw k.one (Memᴰ.append_right k.front (Memᴰ.head refl)), k.lies),
      k.lowest g.at (g.used, rw g.one (Memᴰ.append_right g.front (Memᴰ.head refl)), g.lies),
    ) in
    let (front, used, back) =
    one_place h ks g.front k.front g.back k.back g.used k.used g.at s g.one k.one
    g.lies.from (omega (arith, g.lies.to)) (omega (arith, k.lies.from)) (omega (arith, k.lies.to)) in
    let new : g.new ≡ k.new = g.split ∙ rw (at, front, used, back) (sym k.split) in
    let heap : g.heap ≡ k.heap = one_heap (rw new at g.becomes) k.becomes in
    g.answer ∙ rw (at, front, new, heap) (sym k.answer)

-- a span joined to the holes: which addresses are free fixes the new ones
one_joined : (a : Answer) (h : Heap) (ks : List Hole) (x s top pending used : ℕ) (o p : Outcome) (f g : Heap) (ls ns : List Hole)
    → o ≡ done a f ls → p ≡ done a g ns → Joined h ks x s top pending used f ls → Joined h ks x s top pending used g ns → o ≡ p
one_joined a h ks x s top pending used o p f g ls ns d e j k =
    let new : ls ≡ ns =
    one_list f g ls ns j.sound.1 k.sound.1
    (λ y v. ⊎_elim (k.stays y) (k.becomes_free y) (j.vacant y v))
    (λ y v. ⊎_elim (j.stays y) (j.becomes_free y) (k.vacant y v)) in
    let heap : f ≡ g = one_heap (rw new at j.becomes) k.becomes in
    d ∙ rw (heap, new) (sym e)

-- a block resized: which addresses are free fixes the new holes
one_refitted : (a : Answer) (h : Heap) (ks : List Hole) (x r q used : ℕ) (o p : Outcome) (f g : Heap) (ls ns : List Hole)
    → o ≡ done a f ls → p ≡ done a g ns → Refitted h ks x r q used f ls → Refitted h ks x r q used g ns → o ≡ p
one_refitted a h ks x r q used o p f g ls ns d e j k =
    let new : ls ≡ ns =
    one_list f g ls ns j.sound.1 k.sound.1
    (λ y v. let t = j.vacant y v in k.becomes_free y t.0 t.1)
    (λ y v. let t = k.vacant y v in j.becomes_free y t.0 t.1) in
    let heap : f ≡ g = one_heap (rw new at j.becomes) k.becomes in
    d ∙ rw (heap, new) (sym e)

-- ---- call by call

abbrev pub no_rows : Rows
no_rows = record { addrs = []; sizes = [] }

module _ (b e : Behaviour) (sb : Statements b) (se : Statements e) (h : Heap) (m : List ℕ) where
  opening_settled : (base : Addr) (named : ℕ) → Fits (opening base named)
      → b.outcome (opening base named) h m ≡ e.outcome (opening base named) h m
  opening_settled base named f =
      let d = sb.refusals_exactly (opening base named) h m f in
      let k = se.refusals_exactly (opening base named) h m f in
      by_eq h.bottom.0 0
      (λ z.
      decide (no_start (length m) base named)
      (λ n. (d.1 (λ o. o z)).0 n ∙ sym ((k.1 (λ o. o z)).0 n))
      (λ n.
      let left = is_left base.0 named in
      sb.open_does h m base.0 named _ _ z n left ∙ sym (se.open_does h m base.0 named _ _ z n left)))
      (λ n. d.0 n ∙ sym (k.0 n))

  allocate_settled : (s align : ℕ) → Fits (allocate s align) → b.outcome (allocate s align) h m ≡ e.outcome (allocate s align) h m
  allocate_settled s align f =
      let d = sb.refusals_exactly (allocate s align) h m f in
      let k = se.refusals_exactly (allocate s align) h m f in
      entry b e sb se h m
      (λ r p q. p _ _ d ∙ sym (q _ _ k))
      (λ p q g j same.
      decide (no_layout s align f.1)
      (λ n. (p _ _ d).0 n ∙ sym ((q _ _ k).0 n))
      (λ n.
      let r = rounded s in
      let v = valid s align f.1 n in
      let one = sb.demand2 h m s align r g v in
      let two = rw same at (se.demand2 h m s align r j v) in
      by_room r align h (b.holes h m) v.power g.1.1
      (λ some. one_grant r align h (b.holes h m) _ _ (omega (arith, v.rounds.sixteen)) g.1.1 (one.0 some) (two.0 some))
      (λ none. one.1 none ∙ sym (two.1 none))))

  free_settled : (x : Addr) (s align : ℕ) → Fits (free x s align) → b.outcome (free x s align) h m ≡ e.outcome (free x s align) h m
  free_settled x s align f =
      let d = sb.refusals_exactly (free x s align) h m f in
      let k = se.refusals_exactly (free x s align) h m f in
      entry b e sb se h m
      (λ r p q. p _ _ d ∙ sym (q _ _ k))
      (λ p q g j same.
      let one = p _ _ d in
      let two = q _ _ k in
      decide (no_layout s align f.2)
      (λ n. one.0 n ∙ sym (two.0 n))
      (λ n.
      let r = rounded s in
      let v = valid s align f.2 n in
      decide (no_span x r h (b.holes h m) align)
      (λ t. (one.1 n).0 (r, v.rounds, t) ∙ sym ((two.1 n).0 (r, v.rounds, rw same t)))
      (λ t.
      let (f1, l1, e1, u1, j1) = sb.free_does h m x s align r g v t in
      let (f2, l2, e2, u2, j2) = rw same at (se.free_does h m x s align r j v (rw same t)) in
      one_joined _ h (b.holes h m) x.0 r _ _ _ _ _ f1 f2 l1 l2 e1 e2 j1 j2)))

  resize_settled : (x : Addr) (s align n : ℕ) → Fits (resize x s align n)
      → b.outcome (resize x s align n) h m ≡ e.outcome (resize x s align n) h m
  resize_settled x s align n f =
      let d = sb.refusals_exactly (resize x s align n) h m f in
      let k = se.refusals_exactly (resize x s align n) h m f in
      entry b e sb se h m
      (λ r p q. p _ _ d ∙ sym (q _ _ k))
      (λ p q g j same.
      let one = p _ _ d in
      let two = q _ _ k in
      decide (no_layout s align f.2)
      (λ o. one.0 o ∙ sym (two.0 o))
      (λ o.
      decide (no_layout n align f.2)
      (λ l. (one.1 o).0 l ∙ sym ((two.1 o).0 l))
      (λ l.
      let r = rounded s in
      let u = rounded n in
      let v = valid s align f.2 o in
      let w = valid n align f.2 l in
      let ks = b.holes h m in
      decide (no_span x r h ks align)
      (λ t. ((one.1 o).1 l).0 (r, v.rounds, t) ∙ sym (((two.1 o).1 l).0 (r, v.rounds, rw same t)))
      (λ t.
      let free : ((c : ℕ) × Rounds s c × NoSpan h ks x.0 c align) → ⊥ =
      λ (c, is, bars). t (subst (λ (c : ℕ). NoSpan h ks x.0 c align) (rounds_rounded is) bars) in
      decide (no_stretch h (hole x r) (floor_of h ks) ks u (sound_walk h (words_fair h g.1.0) ks (words_holes h ks g.1.1)))
      (λ z.
      (((one.1 o).1 l).1 free).0 (r, v.rounds, (u, w.rounds, z))
      ∙ sym ((((two.1 o).1 l).1 (rw same free)).0 (r, v.rounds, (u, w.rounds, rw same z))))
      (λ z.
      let (f1, l1, e1, u1, j1) = sb.resize_does h m x s align n r u g v w t z in
      let (f2, l2, e2, u2, j2) = rw same at (se.resize_does h m x s align n r u j v w (rw same t) (rw same z)) in
      one_refitted _ h ks x.0 r u _ _ _ f1 f2 l1 l2 e1 e2 j1 j2)))))

  extend_settled : (by : ℕ) → Fits (extend by) → b.outcome (extend by) h m ≡ e.outcome (extend by) h m
  extend_settled by f =
      let d = sb.refusals_exactly (extend by) h m f in
      let k = se.refusals_exactly (extend by) h m f in
      entry b e sb se h m
      (λ r p q. p _ _ d ∙ sym (q _ _ k))
      (λ p q g j same.
      by_le (h.top.0 + h.pending + by) (h.base.0 + h.len)
      (λ fits.
      by_le 16 (h.pending + by)
      (λ large.
      let s = down_to grain (h.pending + by) in
      let down = down_is grain (h.pending + by) (power_pos grain_power) in
      let (f1, l1, e1, j1) = sb.extend_grows h m by s g fits large down in
      let (f2, l2, e2, j2) = rw same at (se.extend_grows h m by s j fits large down) in
      one_joined _ h (b.holes h m) h.top.0 s _ _ _ _ _ f1 f2 l1 l2 e1 e2 j1 j2)
      (λ small.
      let (f1, e1, b1) = sb.extend_gathers h m by g fits small in
      let (f2, e2, b2) = rw same at (se.extend_gathers h m by j fits small) in
      let heap = one_heap b1 b2 in
      e1 ∙ rw heap (sym e2)))
      (λ past. (p _ _ d).0 past ∙ sym ((q _ _ k).0 past)))

  list_settled : b.outcome list h m ≡ e.outcome list h m
  list_settled =
      entry b e sb se h m
      (λ r p q. p _ _ (sb.refusals_exactly list h m tt) ∙ sym (q _ _ (se.refusals_exactly list h m tt)))
      (λ p q g j same.
      (sb.list_does h m no_rows g).0 ∙ sym (rw same at (se.list_does h m no_rows j).0))

  room_settled : (align : ℕ) → Fits (room align) → b.outcome (room align) h m ≡ e.outcome (room align) h m
  room_settled align f =
      let d = sb.refusals_exactly (room align) h m f in
      let k = se.refusals_exactly (room align) h m f in
      entry b e sb se h m
      (λ r p q. p _ _ d ∙ sym (q _ _ k))
      (λ p q g j same.
      decide (no_layout 16 align f)
      (λ n. (p _ _ d).0 n ∙ sym ((q _ _ k).0 n))
      (λ n.
      let v : Valid 16 align 16 = unfold rounded in valid 16 align f n in
      let (n1, g1, e1) = sb.room_does h m align g v in
      let (n2, g2, e2) = se.room_does h m align j v in
      let one = one_largest b e h m align n1 n2 (λ s w. allocate_settled s align w) g1 g2 in
      e1 ∙ rw one (rw same at (sym e2))))

  pub settled : (c : Call) → Fits c → b.outcome c h m ≡ e.outcome c h m
  settled (opening base named) f = opening_settled base named f
  settled (change (Change.allocate s align)) f = allocate_settled s align f
  settled (change (Change.free x s align)) f = free_settled x s align f
  settled (change (Change.resize x s align n)) f = resize_settled x s align n f
  settled (change (Change.extend by)) f = extend_settled by f
  settled (report Report.list) f = list_settled
  settled (report (Report.room align)) f = room_settled align f
