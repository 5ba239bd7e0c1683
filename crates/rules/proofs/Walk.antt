-- Soundness as a walk reads it: head by head, with a floor below which the next hole may not lie. Assumes nothing.
use mathlib.Core.Path.{◌≡◌, refl, sym, ◌∙◌}
use mathlib.Core.Bool.{Bool, true, ◌&&◌, cond}
use mathlib.Core.List.{List, [], ◌∷◌}
use mathlib.Core.Logic.{inl, inr, ⊎_elim}
use Prim.Native.Nat.{◌+◌, ◌*◌, ◌%◌, ◌≤◌}
use native.Mathlib.Omega.{arith}
use lib.Dec.{leb, eqb}
use lib.ListN.{length}
use borrow.Author.Tests.{leb-true, eqb-true, eqb-false, le-leb, eq-eqb}
use Rattle.rules.specs.declared.Addr.{Addr}
use Rattle.rules.specs.declared.Hole.{Hole}
use Rattle.rules.specs.declared.Heap.{Heap}
use Rattle.rules.specs.Fixed.{min_size, grain}
use Rattle.rules.specs.Tests.{all}
use Rattle.rules.specs.Kinds.{plus, same, not_after}
use Rattle.rules.specs.Holes.{end, total}
use Rattle.rules.specs.Sound.{size, number_rules, sound_numbers, gap, hole_rules, lie, rise, leave_before, leave_after, list_rules, sound_holes, most}
use Rattle.rules.specs.InWords.{Gap}
use Rattle.rules.specs.Inner.{Fair, Ruled, head_rules, behind, ends}
use Rattle.std.proofs.lemmas.Bool.{and_from, and_parts, cond_both}
use Rattle.std.specs.Cmp.{both_ways}
use Rattle.rules.proofs.Cases.{cases, last, all_each, each_all}
use Rattle.rules.proofs.Gaps.{gap_words, words_gap, gap_le, gap_apart}

-- ---- the rules on the numbers, as numbers

pub sound_ruled : (h : Heap) → sound_numbers h ≡ true → Ruled h
unfolding sound_numbers
sound_ruled h e = let r = all_each (number_rules h) e in omega (arith, leb-true, eqb-true)

pub ruled_sound : (h : Heap) → Ruled h → sound_numbers h ≡ true
unfolding sound_numbers
ruled_sound h f = each_all (number_rules h) (omega (arith, le-leb, eq-eqb))

pub sound_fair : (h : Heap) → sound_numbers h ≡ true → Fair h
sound_fair h e = (sound_ruled h e).fair

-- ---- the walk

-- what a head must show, as numbers
pub record Keeps (h : Heap) (floor : Addr) (k : Hole) : Type 0 where
  pub above : floor.0 ≤ k.addr.0
  pub addr8 : k.addr.0 % grain ≡ 0
  pub size8 : k.size % grain ≡ 0
  pub least : min_size ≤ k.size
  pub inside : k.addr.0 + k.size ≤ h.top.0

pub rules_keep : (h : Heap) (floor : Addr) (k : Hole) → all (head_rules h floor k) ≡ true → Keeps h floor k
rules_keep h floor k e = let r = all_each (head_rules h floor k) e in omega (arith, leb-true, eqb-true)

pub keep_rules : (h : Heap) (floor : Addr) (k : Hole) → Keeps h floor k → all (head_rules h floor k) ≡ true
keep_rules h floor k r = each_all (head_rules h floor k) (omega (arith, le-leb, eq-eqb))

-- every head from a floor on shows what it must
unfoldable pub walks : Heap → Addr → List Hole → Bool
walks h floor [] = ends h floor
walks h floor (k ∷ ks) = all (head_rules h floor k) && walks h (behind k) ks

-- the first floor: bottom if the first hole lies there, else 16 bytes on
unfoldable pub floor_of : Heap → List Hole → Addr
floor_of h [] = plus h.bottom min_size
floor_of h (k ∷ ks) = cond (same h.bottom k.addr) h.bottom (plus h.bottom min_size)

-- ---- step by step

module _ (h : Heap) (floor : Addr) where
  module _ (k : Hole) (ks : List Hole) where
    pub walks_head : walks h floor (k ∷ ks) ≡ true → Keeps h floor k
    unfolding walks
    walks_head e = rules_keep h floor k (and_parts (all (head_rules h floor k)) (walks h (behind k) ks) e).0

    pub walks_tail : walks h floor (k ∷ ks) ≡ true → walks h (behind k) ks ≡ true
    unfolding walks
    walks_tail e = (and_parts (all (head_rules h floor k)) (walks h (behind k) ks) e).1

    pub walks_cons : Keeps h floor k → walks h (behind k) ks ≡ true → walks h floor (k ∷ ks) ≡ true
    unfolding walks
    walks_cons q w = and_from _ _ (keep_rules h floor k q) w

  pub ends_low : floor.0 ≤ h.top.0 → ends h floor ≡ true
  unfolding ends
  ends_low l = rw (le-leb floor.0 h.top.0 l)

  pub ends_top : floor.0 ≡ h.top.0 + min_size → ends h floor ≡ true
  unfolding ends
  ends_top e =
      rw (eq-eqb floor.0 (h.top.0 + min_size) e) (cases (not_after floor h.top) (λ q. rw q) (λ q. rw q))

  pub ends_cases {ℓ} : {X : Type ℓ} → ends h floor ≡ true → (floor.0 ≤ h.top.0 → X) → (floor.0 ≡ h.top.0 + min_size → X) → X
  unfolding ends
  ends_cases e f g =
      cases (not_after floor h.top)
      (λ q. f (leb-true floor.0 h.top.0 q))
      (λ q. g (eqb-true floor.0 (h.top.0 + min_size) (last (same floor (plus h.top min_size)) (rw q at e))))

-- ---- the two forms say the same

gap_behind : (h : Heap) (k : Hole) → ends h (behind k) ≡ gap (end k) h.top
gap_behind h k =
    both_ways _ _
    (λ e. words_gap (end k) h.top (ends_cases h (behind k) e inr (λ q. inl (omega arith))))
    (λ e. ⊎_elim (λ q. ends_top h (behind k) (omega arith)) (ends_low h (behind k)) (gap_words (end k) h.top e))

-- a list that keeps the rules on holes is walked through, from a floor that its first hole keeps
kept_walks : (h : Heap) (floor : Addr) (k : Hole) (ks : List Hole) → floor.0 ≤ k.addr.0
    → lie h (k ∷ ks) ≡ true → rise (k ∷ ks) ≡ true → leave_after h (k ∷ ks) ≡ true → walks h floor (k ∷ ks) ≡ true
unfolding lie rise leave_after
kept_walks h floor k [] f l r a =
    let q = all_each (hole_rules h k) (and_parts _ _ l).0 in
    walks_cons h floor k [] (omega (arith, leb-true, eqb-true)) (unfold walks in gap_behind h k ∙ a)
kept_walks h floor k (j ∷ js) f l r a =
    let q = all_each (hole_rules h k) (and_parts (all (hole_rules h k)) (lie h (j ∷ js)) l).0 in
    let n = leb-true (behind k).0 j.addr.0 (and_parts (not_after (behind k) j.addr) (rise (j ∷ js)) r).0 in
    walks_cons h floor k (j ∷ js) (omega (arith, leb-true, eqb-true))
    (kept_walks h (behind k) j js n
    (and_parts (all (hole_rules h k)) (lie h (j ∷ js)) l).1
    (and_parts (not_after (behind k) j.addr) (rise (j ∷ js)) r).1
    a)

-- and a list that is walked through keeps them
pub record Kept (h : Heap) (floor : Addr) (k : Hole) (ks : List Hole) : Type 0 where
  pub first : floor.0 ≤ k.addr.0
  pub lies : lie h (k ∷ ks) ≡ true
  pub rises : rise (k ∷ ks) ≡ true
  pub leaves : leave_after h (k ∷ ks) ≡ true

walks_kept : (h : Heap) (floor : Addr) (k : Hole) (ks : List Hole) → h.bottom.0 ≤ floor.0
    → walks h floor (k ∷ ks) ≡ true → Kept h floor k ks
unfolding lie rise leave_after
walks_kept h floor k [] b w =
    let q = walks_head h floor k [] w in
    record {
      first = q.above;
      lies = and_from _ _ (each_all (hole_rules h k) (omega (arith, le-leb, eq-eqb))) refl;
      rises = refl;
      leaves = sym (gap_behind h k) ∙ (unfold walks in walks_tail h floor k [] w);
    }
walks_kept h floor k (j ∷ js) b w =
    let q = walks_head h floor k (j ∷ js) w in
    let r = walks_kept h (behind k) j js (omega arith) (walks_tail h floor k (j ∷ js) w) in
    record {
      first = q.above;
      lies = and_from _ _ (each_all (hole_rules h k) (omega (arith, le-leb, eq-eqb))) r.lies;
      rises = and_from _ _ (le-leb _ _ r.first) r.rises;
      leaves = r.leaves;
    }

-- the first floor keeps 0 or at least 16 bytes before the first hole
pub gap_floor : (h : Heap) (k : Hole) (ks : List Hole) → Gap h.bottom.0 k.addr.0 → (floor_of h (k ∷ ks)).0 ≤ k.addr.0
unfolding floor_of
gap_floor h k ks g =
    cond_both (same h.bottom k.addr) h.bottom (plus h.bottom min_size) (λ (floor : Addr). floor.0 ≤ k.addr.0)
    (λ q. gap_le h.bottom.0 k.addr.0 g)
    (λ q. gap_apart h.bottom.0 k.addr.0 g (eqb-false h.bottom.0 k.addr.0 q))

floor_gap : (h : Heap) (k : Hole) (ks : List Hole) → (floor_of h (k ∷ ks)).0 ≤ k.addr.0 → Gap h.bottom.0 k.addr.0
unfolding floor_of
floor_gap h k ks =
    cond_both (same h.bottom k.addr) h.bottom (plus h.bottom min_size)
    (λ (floor : Addr). floor.0 ≤ k.addr.0 → Gap h.bottom.0 k.addr.0)
    (λ q l. inl (eqb-true h.bottom.0 k.addr.0 q))
    (λ q l. inr l)

-- it is bottom or 16 bytes on
by_floor : (P : Addr → Type 0) (h : Heap) (ks : List Hole) → P h.bottom → P (plus h.bottom min_size) → P (floor_of h ks)
unfolding floor_of
by_floor P h [] a b = b
by_floor P h (k ∷ ks) a b = cond_both (same h.bottom k.addr) h.bottom (plus h.bottom min_size) P (λ e. a) (λ e. b)

pub floor_low : (h : Heap) (ks : List Hole) → h.bottom.0 ≤ (floor_of h ks).0
floor_low h ks = by_floor (λ floor. h.bottom.0 ≤ floor.0) h ks (omega arith) (omega arith)

pub floor_high : (h : Heap) (ks : List Hole) → (floor_of h ks).0 ≤ h.bottom.0 + min_size
floor_high h ks = by_floor (λ floor. floor.0 ≤ h.bottom.0 + min_size) h ks (omega arith) (omega arith)

-- the rules on the holes: the walk from the first floor, and the sum
pub sound_walks : (h : Heap) → Fair h → (ks : List Hole)
    → sound_holes h ks ≡ (walks h (floor_of h ks) ks && eqb (total ks + h.used) (size h))
unfolding sound_holes floor_of walks lie rise leave_before leave_after ends
sound_walks h f [] =
    let a : leb (h.bottom.0 + 16) h.top.0 ≡ true = le-leb _ _ f.room in
    cases (eqb (total [] + h.used) (size h)) (λ e. simp (a, e)) (λ e. simp (a, e))
sound_walks h f (k ∷ ks) =
    both_ways _ _
    (λ e.
    let r = all_each (list_rules h (k ∷ ks)) e in
    let first = gap_floor h k ks (gap_words h.bottom k.addr r.1.1.0) in
    and_from _ _ (kept_walks h (floor_of h (k ∷ ks)) k ks first r.0 r.1.0 r.1.1.1.0) r.1.1.1.1.0)
    (λ e.
    let w = (and_parts (walks h (floor_of h (k ∷ ks)) (k ∷ ks)) _ e).0 in
    let r = walks_kept h (floor_of h (k ∷ ks)) k ks (floor_low h (k ∷ ks)) w in
    let first = words_gap h.bottom k.addr (floor_gap h k ks r.first) in
    each_all (list_rules h (k ∷ ks))
    (r.lies, (r.rises, (first, (r.leaves, ((and_parts (walks h (floor_of h (k ∷ ks)) (k ∷ ks)) _ e).1, tt))))))

module _ (h : Heap) (f : Fair h) (ks : List Hole) where
  pub sound_walk : sound_holes h ks ≡ true → walks h (floor_of h ks) ks ≡ true
  sound_walk e =
      (and_parts (walks h (floor_of h ks) ks) (eqb (total ks + h.used) (size h)) (sym (sound_walks h f ks) ∙ e)).0

  pub sound_sum : sound_holes h ks ≡ true → total ks + h.used ≡ size h
  sound_sum e =
      eqb-true (total ks + h.used) (size h)
      (and_parts (walks h (floor_of h ks) ks) (eqb (total ks + h.used) (size h)) (sym (sound_walks h f ks) ∙ e)).1

  pub walk_sound : walks h (floor_of h ks) ks ≡ true → total ks + h.used ≡ size h → sound_holes h ks ≡ true
  walk_sound w e = sound_walks h f ks ∙ and_from _ _ w (eq-eqb (total ks + h.used) (size h) e)

-- ---- how many there are

-- each hole takes at least 32 bytes, its distance from the next one with it
walks_count : (h : Heap) (floor : Addr) (ks : List Hole) → walks h floor ks ≡ true
    → floor.0 + (2 * min_size) * length ks ≤ h.top.0 + min_size
walks_count h floor [] e = ends_cases h floor (unfold walks in e) (λ l. omega arith) (λ q. omega arith)
walks_count h floor (k ∷ ks) e =
    let q = walks_head h floor k ks e in
    omega (arith, walks_count h (behind k) ks (walks_tail h floor k ks e))

-- so there are at most (size + 16) / 32 holes, rounded down
pub sound_count : (h : Heap) → Fair h → (ks : List Hole) → sound_holes h ks ≡ true → length ks ≤ most h
sound_count h f ks e = omega (arith, walks_count h (floor_of h ks) ks (sound_walk h f ks e), floor_low h ks)
