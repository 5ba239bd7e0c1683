-- What each accepted call leaves, in words of the caller. Assumes nothing.
use mathlib.Core.Path.{◌≡◌, refl, sym, subst, ap, ◌∙◌}
use mathlib.Core.Bool.{false}
use mathlib.Core.List.{List, [], ◌∷◌}
use mathlib.Core.Logic.{inl, inr, ⊎_elim}
use Prim.Native.Nat.{ℕ, ◌+◌, ◌-◌, ◌^◌, ◌<◌}
use native.Mathlib.Omega.{arith}
use lib.Dec.{eqb}
use lib.ListN.{length, get_or}
use borrow.Author.Tests.{ltb-false, eqb-true, not-false}
use Rattle.rules.specs.declared.Addr.{Addr}
use Rattle.rules.specs.declared.Hole.{Hole}
use Rattle.rules.specs.declared.Heap.{Heap}
use Rattle.rules.specs.declared.Answer.{Answer}
use Rattle.rules.specs.declared.Answer.TheVariants.{Allocated, Freed, Resized}
use Rattle.rules.specs.Round.{Below, down_to}
use Rattle.rules.specs.Tests.{any}
use Rattle.rules.specs.Kinds.{addr}
use Rattle.rules.specs.Holes.{hole}
use Rattle.rules.specs.Sound.{holes}
use Rattle.rules.specs.Allocate.{rounded, candidate, find}
use Rattle.rules.specs.Changes.{Change}
use Rattle.rules.specs.Calls.{only_hole, opening, allocate, free, resize, extend}
use Rattle.rules.specs.Answers.{answer_numbers, refusal_numbers}
use Rattle.rules.specs.Refusals.{refusal6, tests}
use Rattle.rules.specs.Outcome.{outcome, after}
use Rattle.rules.specs.InWords.{Valid, Hold, RoomAt, NoStart}
use Rattle.rules.specs.Behaviour.{ours, Good}
use Rattle.rules.specs.Statements.{Becomes, Granted}
use Rattle.std.proofs.lemmas.Bool.{or_parts}
use Rattle.rules.proofs.Cases.{apart, by_le}
use Rattle.rules.proofs.Multiples.{down_is}
use Rattle.rules.proofs.Powers.{power_pos, grain_power}
use Rattle.rules.proofs.Layouts.{layout_passed}
use Rattle.rules.proofs.Walk.{floor_of, sound_walk}
use Rattle.rules.proofs.SoundWords.{rounded_rounds, is_left, words_fair, words_holes}
use Rattle.rules.proofs.TestWords.{no_start, no_span}
use Rattle.rules.proofs.Calls.{answer_refused}
use Rattle.rules.proofs.OpenWords.{open_does}
use Rattle.rules.proofs.Suits.{by_found, nothing_room, found_room}
use Rattle.rules.proofs.Lowest.{demand2}
use Rattle.rules.proofs.FreeWords.{free_does, extend_gathers, extend_grows}
use Rattle.rules.proofs.ResizeWords.{no_stretch, resize_does}
use Rattle.c_face.specs.Face.{heap_of}
use Rattle.c_face.specs.Statements.{Seen, Meets, Holds, Leaves, Stay, Opens, Allocates, Frees, Resizes, Extends, OpenLeaves, AllocateLeaves, FreeLeaves, ResizeLeaves, ExtendLeaves}
use Rattle.c_face.proofs.Refused.{accepted_passes}
use Rattle.c_face.proofs.Seen.{seen_of, done_with, by_done, good_holds, done_leaves, change_good}

-- a layout that is not refused, with its rounded size
passed_valid : (size align : ℕ) → align < 2 ^ 64 → any (refusal6 size align) ≡ false → Valid size align (rounded size)
passed_valid size align l e =
    let v = layout_passed size align l e in
    record { fits = l; power = v.power; rounds = rounded_rounds size; room = v.room }

-- the words that stay where top and pending do
unmoved : (ws m : List ℕ) (a : Answer) (ks : List Hole) (used : ℕ) (h' : Heap)
    → Becomes (heap_of ws) ks (get_or ws 3 0) (get_or ws 5 0) used h'
    → Stay (seen_of ws m (done_with a h' ks m)) (0 ∷ 1 ∷ 2 ∷ 3 ∷ 5 ∷ [])
unmoved ws m a ks used h' b =
    (ap (λ (x : Addr). x.0) b.base, (b.len, (ap (λ (x : Addr). x.0) b.bottom, (b.new_top, (b.new_pending, tt)))))

-- ---- open

pub open_leaves : OpenLeaves
unfolding tests answer_numbers
open_leaves base named s t z =
    let c = opening (addr base) named in
    let ws = s.words in
    let h = heap_of ws in
    let m = s.bytes in
    let p = accepted_passes c h m (sym t.shows.0.0 ∙ z) in
    let unopened : h.bottom.0 ≡ 0 = eqb-true h.bottom.0 0 (not-false (eqb h.bottom.0 0) (or_parts _ _ p.0).0) in
    let starts : NoStart (length m) base named → ⊥ = λ n. apart ((no_start (length m) (addr base) named).1 n) p.1.0 in
    let l = is_left base named in
    let e = open_does h m base named _ _ unopened starts l in
    by_done c s t (Opens base named) e
    (record {
      unopened = unopened;
      zero = refl;
      one = refl;
      two = refl;
      left = l;
      three = refl;
      four = omega (arith, l.up.above);
      five =
          by_le 16 (only_hole (addr base) named).size
          (λ k. omega (arith, k, l.up.above, l.down.below))
          (λ k. absurd (starts (inr (inr (inr (inr (_, _, l, k)))))));
      six = refl;
      leaves = done_leaves c ws m t.fits _ _ _ e;
    })

-- ---- allocate

-- one that is not refused finds room
has_room : (h : Heap) (m : List ℕ) (size align r : ℕ) → Good ours h m → Valid size align r
    → (answer_numbers (after (allocate size align) h m).answer).no ≡ 0
    → (x : ℕ) × RoomAt r align (holes h m) x
unfolding answer_numbers refusal_numbers
has_room h m size align r g v z =
    by_found (find r align (holes h m))
    (λ e.
    let none = (demand2 h m size align r g v).1 (nothing_room r align v.power (holes h m) (λ k i. (g.1.1.each k i).place) e) in
    let seven = rw (answer_refused (allocate size align) h m _ none) at z in
    absurd (omega arith))
    (λ front k back e. ((candidate align k.addr).0, found_room r align v.power (holes h m) front back k e))

module _ (size align : ℕ) (s : Seen) (t : Meets (allocate size align) s) (g : Good ours (heap_of s.words) s.bytes) (r : ℕ)
    (v : Valid size align r)
    (a : Granted r align (heap_of s.words) (holes (heap_of s.words) s.bytes) (outcome (allocate size align) (heap_of s.words) s.bytes)) where
  granted_leaves : Allocates size align s
  unfolding answer_numbers
  granted_leaves =
      let ws = s.words in
      let m = s.bytes in
      let told = Allocated (addr a.at) (length a.front + 1) in
      let seen = seen_of ws m (done_with told a.heap a.new m) in
      by_done (allocate size align) s t (Allocates size align) a.answer
      (record {
        front = a.front;
        used = a.used;
        back = a.back;
        held = subst (Holds ws m) a.one (good_holds ws m g);
        rounded = r;
        rounds = v.rounds;
        stay = unmoved ws m told a.new _ a.heap a.becomes;
        six = a.becomes.new_used;
        lies = a.lies;
        lowest = λ x i. a.lowest x (subst (λ (l : List Hole). RoomAt r align l x) (sym a.one) i);
        count = refl;
        leaves = subst (Leaves seen) a.split (done_leaves (allocate size align) ws m t.fits told a.heap a.new a.answer);
      })

pub allocate_leaves : AllocateLeaves
allocate_leaves size align s t z =
    let h = heap_of s.words in
    let m = s.bytes in
    let r = rounded size in
    let (g, p) = change_good (Change.allocate size align) s t z in
    let v = passed_valid size align t.fits.1 p.0 in
    let room = has_room h m size align r g v (sym t.shows.0.0 ∙ z) in
    granted_leaves size align s t g r v ((demand2 h m size align r g v).0 room)

-- ---- free

pub free_leaves : FreeLeaves
unfolding answer_numbers
free_leaves x size align s t z =
    let c = free (addr x) size align in
    let ws = s.words in
    let h = heap_of ws in
    let m = s.bytes in
    let ks = holes h m in
    let r = rounded size in
    let (g, p) = change_good (Change.free (addr x) size align) s t z in
    let v = passed_valid size align t.fits.2 p.0 in
    let (h', new, e, least, joined) =
    free_does h m (addr x) size align r g v (λ n. apart ((no_span (addr x) r h ks align).1 n) p.1.0) in
    let b = joined.becomes in
    by_done c s t (Frees x size) e
    (record {
      before = ks;
      held = good_holds ws m g;
      after = new;
      leaves = done_leaves c ws m t.fits _ h' new e;
      stay = unmoved ws m (Freed r (h.used - r)) new _ h' b;
      rounds = v.rounds;
      six = omega (arith, b.new_used, least);
      used = sym b.new_used;
      free = joined.vacant;
      stays = λ y. ⊎_elim (joined.stays y) (joined.becomes_free y);
    })

-- ---- resize

pub resize_leaves : ResizeLeaves
unfolding answer_numbers
resize_leaves x size align n s t z =
    let c = resize (addr x) size align n in
    let ws = s.words in
    let h = heap_of ws in
    let m = s.bytes in
    let ks = holes h m in
    let r = rounded size in
    let q = rounded n in
    let (g, p) = change_good (Change.resize (addr x) size align n) s t z in
    let v = passed_valid size align t.fits.2 p.0 in
    let w = passed_valid n align t.fits.2 p.1.0 in
    let walked = sound_walk h (words_fair h g.1.0) ks (words_holes h ks g.1.1) in
    let (h', new, e, least, refit) =
    resize_does h m (addr x) size align n r q g v w
    (λ no. apart ((no_span (addr x) r h ks align).1 no) p.1.1.0)
    (λ no. apart ((no_stretch h (hole (addr x) r) (floor_of h ks) ks q walked).1 no) p.1.1.1.0) in
    let b = refit.becomes in
    by_done c s t (Resizes x size n) e
    (record {
      before = ks;
      held = good_holds ws m g;
      after = new;
      leaves = done_leaves c ws m t.fits _ h' new e;
      stay = unmoved ws m (Resized q (h.used - r + q)) new _ h' b;
      old = r;
      rounded = v.rounds;
      rounds = w.rounds;
      six = omega (arith, b.new_used, least);
      used = sym b.new_used;
      free = refit.vacant;
      stays = refit.becomes_free;
    })

-- ---- extend

-- a heap whose holes stay has the same first place
first_stays : (base p : ℕ) (m : List ℕ) (h h' : Heap) (ks : List Hole) {top pending used : ℕ} → h.base.0 ≡ base
    → Hold base m p ks → Becomes h ks top pending used h' → h'.first.0 ≡ p
first_stays base p m h h' [] e k b = b.none refl ∙ sym k
first_stays base p m h h' (j ∷ js) e k b = omega (arith, b.first j js refl, k.1, e)

pub extend_leaves : ExtendLeaves
unfolding answer_numbers
extend_leaves by s t z =
    let c = extend by in
    let ws = s.words in
    let h = heap_of ws in
    let m = s.bytes in
    let ks = holes h m in
    let sum = h.pending + by in
    let (g, p) = change_good (Change.extend by) s t z in
    let l = ltb-false (h.base.0 + h.len) (h.top.0 + h.pending + by) (or_parts _ _ p.0).0 in
    let held = good_holds ws m g in
    by_le 16 sum
    (λ large.
    let d : Below 8 sum (down_to 8 sum) = down_is 8 sum (power_pos grain_power) in
    let (h', new, e, joined) = extend_grows h m by (down_to 8 sum) g l large d in
    let b = joined.becomes in
    let risen : h'.top.0 - h.top.0 ≡ down_to 8 sum = omega (arith, b.new_top) in
    by_done c s t (Extends by) e
    (record {
      before = ks;
      held = held;
      after = new;
      leaves = done_leaves c ws m t.fits _ h' new e;
      stay = (ap (λ (x : Addr). x.0) b.base, (b.len, (ap (λ (x : Addr). x.0) b.bottom, (b.new_used, tt))));
      all = omega (arith, b.new_top, b.new_pending, d.below);
      inside = rw (b.base, b.len) (omega (arith, b.new_top, b.new_pending, d.below, l));
      below = λ small. absurd (omega (arith, small, large));
      from = λ k. rw risen d;
      size = rw (b.bottom, b.new_top);
      pending = sym b.new_pending;
      free = λ y i. rw b.new_top (joined.vacant y i);
      stays = λ y i. ⊎_elim (joined.stays y) (joined.becomes_free y) (rw b.new_top at i);
    }))
    (λ small.
    let (h', e, b) = extend_gathers h m by g l small in
    by_done c s t (Extends by) e
    (record {
      before = ks;
      held = held;
      after = ks;
      leaves = done_leaves c ws m t.fits _ h' ks e;
      stay = (ap (λ (x : Addr). x.0) b.base, (b.len, (ap (λ (x : Addr). x.0) b.bottom, (b.new_used, tt))));
      all = omega (arith, b.new_top, b.new_pending);
      inside = rw (b.base, b.len) (omega (arith, b.new_top, b.new_pending, l));
      below = λ k. (b.new_top, (first_stays h.base.0 h.first.0 m h h' ks refl held.heads b, tt));
      from = λ large. absurd (omega (arith, small, large));
      size = rw (b.bottom, b.new_top);
      pending = sym b.new_pending;
      free = λ y i. inl i;
      stays = λ y. ⊎_elim (λ i. i) (λ (from, to). absurd (omega (arith, b.new_top, from, to)));
    }))
