-- An extension: the search from top passes every hole, and the bytes behind top accumulate or become free. Assumes nothing.
use mathlib.Core.Path.{◌≡◌, refl, sym, ◌∙◌}
use mathlib.Core.Bool.{true}
use mathlib.Core.List.{List, [], ◌∷◌, append-nil}
use Prim.Native.Nat.{ℕ, ◌+◌, ◌-◌, ◌%◌, ◌≤◌, ◌<◌}
use native.Mathlib.Omega.{arith}
use lib.Dec.{eqb}
use Rattle.std.proofs.Common.{Result, Ok, Err, None}
use borrow.Author.Tests.{le-ltb, lt-ltb}
use Rattle.rules.specs.Fixed.{min_size, grain}
use Rattle.rules.specs.Round.{down_to}
use Rattle.rules.specs.Kinds.{plus, none}
use Rattle.rules.specs.Holes as Holes
use Rattle.rules.specs.Holes.{hole, first_of}
use Rattle.rules.specs.Sound.{size, sound_holes, holes}
use Rattle.rules.specs.Free.{freed}
use Rattle.rules.specs.Calls.{grown, gathered, extended}
use Rattle.rules.specs.declared.Hole.{Hole}
use Rattle.rules.specs.declared.Heap.{Heap}
use Rattle.rules.specs.declared.Decided.{Decided}
use Rattle.rules.specs.declared.Refusal.{Refusal}
use Rattle.rules.specs.declared.Refusal.TheVariants.{PastArena}
use Rattle.rules.specs.declared.Answer.TheVariants.{Extended}
use Rattle.rules.specs.Inner.{put, written, Relinks, Fulfils, Fair, extending}
use Rattle.rules.proofs.Walk.{rules_keep, walks}
use Rattle.rules.proofs.Rises.{rises_back, sound_rises}
use Rattle.rules.proofs.Lists.{heads_to}
use Rattle.rules.proofs.Relink.{put_same}
use Rattle.rules.proofs.Written.{fulfils_refused, fulfils_changed, fulfils_sound}
use Rattle.walk.specs.Walk.{start_of, last_place}
use Rattle.numbers.specs.Ready.{Ready}
use Rattle.walk.specs.Settled.{Settled}
use Rattle.walk.specs.declared.Near.{Near}
use Rattle.walk.proofs.ToEnd.{by_walk}
use Rattle.walk.proofs.Stands.{stands}
use Rattle.walk.proofs.ToSpan.{Lies}
use Rattle.joining.specs.Span.{Free}
use Rattle.joining.specs.declared.Relinked.{Relinked}
use Rattle.joining.proofs.Linked.{Linked}
use Rattle.joining.proofs.Neighbours.{Sought, lies}
use Rattle.extend.specs.Growth.{gathering, growing, extended_if_sound}

-- ---- the search from top

-- it passes every hole, finds every rule kept, and stops behind the last
pub record AtEnd (h : Heap) (ks : List Hole) (near : Near) : Type 0 where
  pub walked : walks h (start_of h) ks ≡ true
  pub prev : near.cursor.prev ≡ last_place h.base none ks
  pub next : near.cursor.hole ≡ none
  pub summed : near.total ≡ Holes.total ks

-- no hole lies beyond top, where a hole that keeps its rules has ended
at_end : (h : Heap) (ks front back : List Hole) {near : Near} (l : Lies h h.top ks near) → l.front ≡ front → l.back ≡ back → AtEnd h ks near
unfolding walks first_of
at_end h ks front [] {near} l f b =
    let list : ks ≡ front = l.list ∙ rw (f, b, append-nil) in
    record {
      walked = l.onward ∙ rw b (rw b at l.begins);
      prev = l.prev ∙ rw (f, list);
      next = l.at ∙ rw b;
      summed = l.summed ∙ rw (f, list);
    }
at_end h ks front (k ∷ back) {near} l f b =
    let r = rules_keep h near.floor k (rw b at l.begins) in
    let x = rw b at l.beyond in
    absurd (omega arith)

module _ {h : Heap} {m : List ℕ} {near : Near} (k : Sought h m h.top near) where
  ended : AtEnd h (holes h m) near
  ended = at_end h (holes h m) _ _ (lies k) refl refl

  -- so the sum alone decides the rules on all holes
  pub top_sound : sound_holes h (holes h m) ≡ eqb (near.total + h.used) (size h)
  top_sound =
      let t : near.total ≡ Holes.total (holes h m) = omega (arith, ended.summed) in
      rw (by_walk h m k.fair, ended.walked, t)

  -- and bytes behind top lie behind every hole
  pub top_free : sound_holes h (holes h m) ≡ true → (by : ℕ) → min_size ≤ by → h.top.0 + by ≤ h.base.0 + h.len
      → Free h (holes h m) near.cursor (hole h.top (down_to grain by))
  top_free sound by least fits =
      let ks = holes h m in
      let r = rw (← append-nil ks) at (sound_rises h k.fair ks sound) in
      record {
        front = ks;
        back = [];
        list = sym (append-nil ks);
        prev = ended.prev;
        next = ended.next ∙ (unfold first_of in refl);
        before = rises_back h.bottom.0 h.top.0 ks [] r;
        least = omega arith;
        behind = omega arith;
      }

-- ---- what is decided

-- the span at top is freed, and top rises by it
pub grown_is : (h : Heap) (m : List ℕ) (by : ℕ) → Fair h → {r : Relinked}
    → Linked h.base m (freed (hole h.top (down_to grain by)) (holes h m)) r
    → Fulfils (growing by h m) h m
    (Ok
    (record {
      heap =
          record {
            base = h.base;
            len = h.len;
            bottom = h.bottom;
            top = plus h.top (down_to grain by);
            first = r.first;
            pending = by % grain;
            used = h.used;
          };
      answer = Extended (h.top.0 + down_to grain by - h.bottom.0) (by % grain);
      heads = r.heads;
    }))
unfolding grown
grown_is h m by fair l =
    let s = down_to grain by in
    let e : h.top.0 + s - h.bottom.0 ≡ size h + s = omega arith in
    rw e
    (fulfils_changed h m (Extended (size h + s) (by % grain)) (freed (hole h.top s) (holes h m))
    (plus h.top s) (by % grain) h.used l)

-- a list that stands is written by no head
stay : (h : Heap) (m : List ℕ) → Settled h m → Relinks h.base m (holes h m) h.first (record { one = None; two = None })
unfolding put written
stay h m s =
    let t = stands h m s in
    let same = heads_to h.base (holes h m) m ∙ put_same h.base (holes h m) none m s.ready.bytes t.heads in
    record { first = t.first; heads = record { one = tt; two = tt; arena = sym same } }

-- the bytes lie in the arena, behind top and the pending ones
abbrev pub Fits : Heap → ℕ → Type 0
Fits h by = h.top.0 + h.pending + by ≤ h.base.0 + h.len

module _ (h : Heap) (m : List ℕ) (by : ℕ) (ready : Ready h m) (sound : sound_holes h (holes h m) ≡ true) where
  pub past_is : h.base.0 + h.len < h.top.0 + h.pending + by → Fulfils (extended_if_sound by h m) h m (Err PastArena)
  unfolding extending
  past_is l =
      fulfils_sound h m (holes h m) (extending by h (holes h m)) sound
      (rw (lt-ltb (h.base.0 + h.len) (h.top.0 + h.pending + by) l) (fulfils_refused h m PastArena))

  module _ (fits : Fits h by) where
    pub gathers_is : h.pending + by < min_size → Fulfils (extended_if_sound by h m) h m (Ok (gathering h (h.pending + by)))
    unfolding extending extended gathered
    gathers_is l =
        let sum = h.pending + by in
        fulfils_sound h m (holes h m) (extending by h (holes h m)) sound
        (rw (le-ltb (h.base.0 + h.len) (h.top.0 + h.pending + by) fits, lt-ltb sum min_size l)
        (fulfils_changed h m (Extended (size h) sum) (holes h m) h.top sum h.used
        (stay h m (record { ready = ready; sound = sound }))))

    pub grows_is : {d : Result Decided Refusal} → min_size ≤ h.pending + by → Fulfils (growing (h.pending + by) h m) h m d
        → Fulfils (extended_if_sound by h m) h m d
    unfolding extending extended
    grows_is l p =
        fulfils_sound h m (holes h m) (extending by h (holes h m)) sound
        (rw (le-ltb (h.base.0 + h.len) (h.top.0 + h.pending + by) fits, le-ltb (h.pending + by) min_size l) p)
