-- A free span between the holes before it and those behind it: what it becomes in front of these, which hole is the last before it, and
-- the bounds of both. Assumes nothing.
use mathlib.Core.Path.{◌≡◌, refl, sym, ap, ◌∙◌}
use mathlib.Core.List.{List, [], ◌∷◌, ◌++◌, append-nil}
use Prim.Native.Nat.{ℕ, suc, ◌+◌, ◌≤◌}
use native.Mathlib.Nat.{add_assoc}
use native.Mathlib.Omega.{arith}
use lib.ListN.{length}
use borrow.Author.Tests.{eq-eqb, ne_eqb}
use Rattle.rules.specs.Fixed.{min_size, addr_limit}
use Rattle.rules.specs.Kinds.{addr, plus, place_of, none}
use Rattle.rules.specs.Holes.{hole, end, head_at, holes_from, first_of}
use Rattle.rules.specs.Sound.{most, holes}
use Rattle.rules.specs.Allocate.{remains}
use Rattle.rules.specs.Free.{joined, in_front}
use Rattle.rules.specs.Resize.{stretch_end, rest_in_front}
use Rattle.rules.specs.declared.Addr.{Addr}
use Rattle.rules.specs.declared.Place.{Place}
use Rattle.rules.specs.declared.Head.{Head}
use Rattle.rules.specs.declared.Hole.{Hole}
use Rattle.rules.specs.declared.Heap.{Heap}
use Rattle.rules.specs.Inner.{Bytes, Fair, Rises, end_or}
use Rattle.rules.proofs.Cases.{by_eq}
use Rattle.rules.proofs.Walk.{sound_count}
use Rattle.rules.proofs.Rises.{rises_le, rises_front, rises_back, sound_rises}
use Rattle.rules.proofs.Lists.{first_or_lem, Holds, holds_split, holds_from}
use Rattle.rules.proofs.Resized.{stretch_apart}
use Rattle.rules.proofs.Freed.{Beyond, last_end, in_front_touch, in_front_apart}
use Rattle.walk.specs.declared.Cursor.{Cursor}
use Rattle.walk.proofs.Turn.{start}
use Rattle.walk.specs.Walk.{last_place}
use Rattle.walk.specs.Settled.{Settled}
use Rattle.joining.specs.Span.{Free, MayMerge, merged_head}
use Rattle.joining.proofs.Linked.{by_last}
use Rattle.walk.proofs.Passed.{last_none, last_some}

-- ---- in front of holes

-- the span becomes one hole, in front of those that it does not take in
pub record Merged (base : Addr) (hi : ℕ) (m : List ℕ) (g : Hole) (back : List Hole) : Type 0 where
  pub size : ℕ
  pub rest : List Hole
  pub is : in_front g back ≡ hole g.addr size ∷ rest
  -- a hole that ends where the span starts grows by as much
  pub joins : (k : Hole) → (end k).0 ≡ g.addr.0 → in_front (joined k g) back ≡ hole k.addr (k.size + size) ∷ rest
  -- a block in its place has this stretch
  pub stretch : stretch_end g back ≡ plus g.addr size
  pub cut : (s : ℕ) → rest_in_front g s back ≡ remains (plus g.addr s) (plus g.addr size) ++ rest
  pub head : merged_head base m g (first_of base back) ≡ record { size = size; next = first_of base rest }
  pub least : min_size ≤ size
  pub rises : Rises (g.addr.0 + size) hi rest
  pub holds : Holds base m rest none

merged : (base : Addr) (hi : ℕ) (m : List ℕ) (g : Hole) (back : List Hole) → base.0 ≤ (end g).0 → hi ≤ addr_limit
    → min_size ≤ g.size → Rises (end g).0 hi back → Holds base m back none → Merged base hi m g back
unfolding in_front stretch_end rest_in_front merged_head first_of
merged base hi m g [] a b l r t =
    record {
      size = g.size;
      rest = [];
      is = refl;
      joins = λ k e. refl;
      stretch = refl;
      cut = λ s. sym (append-nil (remains (plus g.addr s) (end g)));
      head = refl;
      least = l;
      rises = r;
      holds = tt;
    }
merged base hi m g (k ∷ ks) a b l r t =
    let u = rises_le (k.addr.0 + k.size) hi ks r.2 in
    let p = place_of base k.addr in
    let some = ne_eqb p.0 none.0 (λ e. omega arith) in
    by_eq (end g).0 k.addr.0
    (λ e.
    let touches = eq-eqb (end g).0 (base.0 + p.0) (omega arith) in
    let ends : k.addr.0 + k.size ≡ g.addr.0 + (g.size + k.size) = omega arith in
    record {
      size = g.size + k.size;
      rest = ks;
      is = in_front_touch g k ks e;
      joins = λ j d. in_front_touch (joined j g) k ks (omega arith) ∙ rw (add_assoc j.size g.size k.size);
      stretch = rw (eq-eqb (end g).0 k.addr.0 e) (ap addr ends);
      cut = λ s. rw (eq-eqb (end g).0 k.addr.0 e, ends);
      head = rw (some, touches, t.0, first_or_lem base ks);
      least = omega arith;
      rises = rw (← ends) r.2;
      holds = t.1;
    })
    (λ n.
    let apart = ne_eqb (end g).0 (base.0 + p.0) (λ e. n (omega arith)) in
    record {
      size = g.size;
      rest = k ∷ ks;
      is = in_front_apart g (k ∷ ks) (omega (arith, n));
      joins = λ j d. in_front_apart (joined j g) (k ∷ ks) (omega (arith, n));
      stretch = stretch_apart g (end g).0 hi k ks r r.0 n;
      cut = λ s. rw (ne_eqb (end g).0 k.addr.0 n);
      head = rw (some, apart);
      least = l;
      rises = r;
      holds = t;
    })

-- the first hole behind the span, if there is one, lies past its start
pub beyond : (g : Hole) (hi : ℕ) (back : List Hole) → min_size ≤ g.size → Rises (end g).0 hi back → Beyond g back
beyond g hi [] l r = tt
beyond g hi (k ∷ ks) l r = omega arith

-- ---- between its neighbours

-- a span behind some holes and before others; the heads of both stand
pub record Between (h : Heap) (m : List ℕ) (g : Hole) (front back : List Hole) : Type 0 where
  pub fair : Fair h
  pub bytes : Bytes m
  pub lent : length m ≡ h.len
  pub first : h.first ≡ first_of h.base (front ++ back)
  pub rises : Rises h.bottom.0 (end_or h.bottom.0 front) front
  pub before : Holds h.base m front (first_of h.base back)
  pub below : end_or h.bottom.0 front ≤ g.addr.0
  pub least : min_size ≤ g.size
  pub behind : Rises (end g).0 (h.base.0 + h.len) back
  pub after : Holds h.base m back none

-- the holes of a sound heap were read to their end, so all of their heads stand
pub between : (h : Heap) (m : List ℕ) (cursor : Cursor) (g : Hole) → Settled h m → (f : Free h (holes h m) cursor g)
    → Between h m g f.front f.back
between h m cursor g s f =
    let fair = s.ready.lent.fair in
    let list = (start h m fair).list in
    let count = sound_count h fair (holes h m) s.sound in
    let stands = holds_from (suc (most h)) h.base m h.first (rw (← list) (omega arith)) in
    let parts : holes_from (suc (most h)) h.base m h.first ≡ f.front ++ f.back = sym list ∙ f.list in
    let holds = holds_split h.base m f.front f.back none (rw parts at stands.0) in
    let rises = sound_rises h fair (holes h m) s.sound in
    record {
      fair = fair;
      bytes = s.ready.bytes;
      lent = s.ready.lent.lent;
      first = sym (rw parts at stands.1);
      rises = rises_front h.bottom.0 h.top.0 f.front f.back (rw f.list at rises);
      before = rw (first_or_lem h.base f.back) holds.0;
      below = f.before;
      least = f.least;
      behind = f.behind;
      after = holds.1;
    }

-- the last of the holes before it
pub record Last (h : Heap) (m : List ℕ) (g : Hole) (front back : List Hole) : Type 0 where
  pub others : List Hole
  pub hole : Hole
  pub list : front ≡ others ++ (hole ∷ [])
  pub place : last_place h.base none front ≡ place_of h.base hole.addr
  pub head : head_at m (last_place h.base none front) ≡ record { size = hole.size; next = first_of h.base back }
  pub low : h.base.0 ≤ hole.addr.0
  pub least : min_size ≤ hole.size
  pub ends : (end hole).0 ≤ g.addr.0
  pub rises : Rises h.bottom.0 (end hole).0 (others ++ (hole ∷ []))
  pub before : Holds h.base m others (place_of h.base hole.addr)

module _ (h : Heap) (m : List ℕ) (g : Hole) (front back : List Hole) (s : Between h m g front back) where
  last_of : (others : List Hole) (k : Hole) → front ≡ others ++ (k ∷ []) → Last h m g front back
  last_of others k list =
      let lo = h.bottom.0 in
      let low = s.fair.bottom in
      let below = s.below in
      let e : end_or lo front ≡ (end k).0 = rw list (last_end lo others k) in
      let place : last_place h.base none front ≡ place_of h.base k.addr = rw list (last_some h.base none others k) in
      let r : Rises lo (end k).0 (others ++ (k ∷ [])) = rw (← list, ← e) s.rises in
      let u = rises_le lo (end_or lo others) others (rises_front lo (end k).0 others (k ∷ []) r) in
      let v = rises_back lo (end k).0 others (k ∷ []) r in
      let holds = holds_split h.base m others (k ∷ []) (first_of h.base back) (rw list at s.before) in
      record {
        others = others;
        hole = k;
        list = list;
        place = place;
        head = rw place holds.1.0;
        low = omega arith;
        least = v.1;
        ends = omega arith;
        rises = r;
        before = holds.0;
      }

  pub by_neighbour {ℓ} : {X : Type ℓ} → (front ≡ [] → X) → (Last h m g front back → X) → X
  by_neighbour f t = by_last front f (λ others k e. t (last_of others k e))

  -- a place before the span is that of the last hole
  pub neighbour : ((last_place h.base none front).0 ≡ none.0 → ⊥) → Last h m g front back
  neighbour n = by_neighbour (λ e. absurd (n (rw (e, last_none h.base none)))) (λ t. t)

  pub span_low : h.base.0 ≤ g.addr.0
  span_low =
      let f = s.fair in
      let u = rises_le h.bottom.0 (end_or h.bottom.0 front) front s.rises in
      omega arith

  -- what the span becomes
  pub one : Merged h.base (h.base.0 + h.len) m g back
  one =
      merged h.base (h.base.0 + h.len) m g back (omega (arith, span_low)) s.fair.low s.least s.behind s.after

-- ---- the bounds that the code leans on

-- of the span, and of the hole before it
pub record Bounds (h : Heap) (m : List ℕ) (g : Hole) (prev : Place) (head : Head) : Type 0 where
  pub low : h.base.0 ≤ g.addr.0
  pub ends : (end g).0 ≤ addr_limit
  pub inside : (place_of h.base g.addr).0 + min_size ≤ length m
  pub before : (prev.0 ≡ none.0 → ⊥) → prev.0 + min_size ≤ length m
  pub reach : (prev.0 ≡ none.0 → ⊥) → prev.0 + (head_at m prev).size ≤ addr_limit
  pub sum : (prev.0 ≡ none.0 → ⊥) → (head_at m prev).size + head.size ≤ addr_limit

pub bounds : (h : Heap) (m : List ℕ) (g : Hole) (front back : List Hole) → Between h m g front back
    → Bounds h m g (last_place h.base none front) (merged_head h.base m g (first_of h.base back))
bounds h m g front back s =
    let f = s.fair in
    let lent = s.lent in
    let least = s.least in
    let hi = h.base.0 + h.len in
    let low = span_low h m g front back s in
    let u = rises_le (end g).0 hi back s.behind in
    let o = one h m g front back s in
    let v = rises_le (g.addr.0 + o.size) hi o.rest o.rises in
    record {
      low = low;
      ends = omega arith;
      inside = omega arith;
      before = λ n. let t = neighbour h m g front back s n in rw t.place (omega arith);
      reach = λ n. let t = neighbour h m g front back s n in rw (t.head, t.place) (omega arith);
      sum = λ n. let t = neighbour h m g front back s n in rw (t.head, o.head) (omega arith);
    }

-- of the hole behind it
pub bounds_behind : (h : Heap) (m : List ℕ) (g : Hole) (back : List Hole) → Fair h → length m ≡ h.len → h.base.0 ≤ g.addr.0
    → Rises (end g).0 (h.base.0 + h.len) back → Holds h.base m back none → MayMerge h.base m g (first_of h.base back)
unfolding first_of
bounds_behind h m g [] f e l r t =
    record { ends = omega arith; low = λ n. absurd (n refl); inside = λ n. absurd (n refl); sum = λ n. absurd (n refl) }
bounds_behind h m g (k ∷ ks) f e l r t =
    let u = rises_le (k.addr.0 + k.size) (h.base.0 + h.len) ks r.2 in
    record {
      ends = omega arith;
      low = λ n. omega arith;
      inside = λ n. omega arith;
      sum = λ n. rw t.0 (omega arith);
    }
