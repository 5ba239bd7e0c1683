-- A free span inserted among the holes: its head is to be written, and the link to it where that is new, and these stand for the list with
-- the span in it. Assumes nothing.
use mathlib.Core.Path.{◌≡◌, refl, sym, ◌∙◌}
use mathlib.Core.Bool.{true, false}
use mathlib.Core.List.{List, [], ◌∷◌, ◌++◌, append_assoc}
use Prim.Native.Nat.{ℕ, ◌+◌}
use native.Mathlib.Omega.{arith}
use Rattle.std.proofs.Common.{Some, None}
use borrow.Author.Tests.{eqb-true, eqb-false, ne_eqb}
use Rattle.rules.specs.Kinds.{place_of, none, is_none}
use Rattle.rules.specs.Holes.{hole, end, head_at, first_of}
use Rattle.rules.specs.Sound.{holes}
use Rattle.rules.specs.Free.{in_front, freed}
use Rattle.rules.specs.declared.Place.{Place}
use Rattle.rules.specs.declared.Head.{Head}
use Rattle.rules.specs.declared.Hole.{Hole}
use Rattle.rules.specs.declared.Heap.{Heap}
use Rattle.rules.specs.Inner.{write, put, written, end_or}
use Rattle.rules.proofs.Cases.{cases, apart}
use Rattle.rules.proofs.Rises.{rises_le, rises_front, rises_back, rises_append}
use Rattle.rules.proofs.Freed.{freed_first, freed_apart, freed_touch}
use Rattle.rules.proofs.Relink.{put_one}
use Rattle.walk.specs.declared.Cursor.{Cursor}
use Rattle.walk.specs.Walk.{last_place}
use Rattle.walk.specs.Settled.{Settled}
use Rattle.joining.specs.Span.{Free, MayMerge, MayEnd, relinked, linked_to, merged_head, ends_at}
use Rattle.joining.proofs.Linked.{Linked, Middle, first_on, keeps, links}
use Rattle.joining.proofs.Between.{
  Between,
  between,
  beyond,
  Last,
  by_neighbour,
  neighbour,
  span_low,
  one,
  Bounds,
  bounds,
  bounds_behind,
}

-- ---- whether the hole before ends at the span

abbrev Touches : List ℕ → Place → Place → Type 0
Touches m p at = (p.0 ≡ none.0 → ⊥) × (p.0 + (head_at m p).size ≡ at.0)

ends_touch : (m : List ℕ) (p at : Place) → ends_at m p at ≡ true → Touches m p at
unfolding ends_at
ends_touch m p at e =
    cases (is_none p)
    (λ z. apart (rw z at e) refl)
    (λ z. (eqb-false p.0 none.0 z, eqb-true (p.0 + (head_at m p).size) at.0 (rw z at e)))

ends_apart : (m : List ℕ) (p at : Place) → ends_at m p at ≡ false → Touches m p at → ⊥
unfolding ends_at
ends_apart m p at e t = eqb-false (p.0 + (head_at m p).size) at.0 (rw (ne_eqb p.0 none.0 t.0) at e) t.1

module _ (h : Heap) (m : List ℕ) (g : Hole) (front back : List Hole) (s : Between h m g front back) where
  abbrev prev : Place
  prev = last_place h.base none front

  abbrev at : Place
  at = place_of h.base g.addr

  abbrev head : Head
  head = merged_head h.base m g (first_of h.base back)

  -- ---- the hole before the span does not touch it, or there is none

  freed_between : (Touches m prev at → ⊥) → freed g (front ++ back) ≡ front ++ in_front g back
  freed_between n =
      let f = s.fair in
      let hi = h.base.0 + h.len in
      let u = rises_le (end g).0 hi back s.behind in
      let b = beyond g hi back s.least s.behind in
      by_neighbour h m g front back s
      (λ e. rw e (freed_first g back b))
      (λ t.
      let k = t.hole in
      let apart : (end k).0 ≡ g.addr.0 → ⊥ =
      λ e. n (λ z. omega (arith, rw t.place at z), rw (t.head, t.place) (omega arith)) in
      rw t.list
      (freed_apart h.bottom.0 (end k).0 g (t.others ++ (k ∷ [])) back t.rises (omega (arith, apart)) b))

  -- the span's own head is written, and the link to it
  insert_own : (Touches m prev at → ⊥)
      → Linked h.base m (freed g (front ++ back)) (linked_to h.first m prev at (Some (record { at = at; head = head })))
  unfolding first_of put
  insert_own n =
      let o = one h m g front back s in
      let base = h.base in
      let lo = h.bottom.0 in
      let hi = base.0 + h.len in
      let f = s.fair in
      let k = hole g.addr o.size in
      let new : freed g (front ++ back) ≡ front ++ ((k ∷ []) ++ o.rest) = freed_between n ∙ rw o.is in
      let rises = rises_append lo (end_or lo front) hi front (k ∷ o.rest) s.rises (s.below, o.least, o.rises) in
      let middle : Middle base m front (k ∷ []) o.rest (first_of base back) h.first =
      record {
        lo = lo;
        hi = hi;
        bytes = s.bytes;
        low = f.bottom;
        small = omega arith;
        lent = omega (arith, s.lent);
        rises = rises;
        before = s.before;
        behind = o.holds;
        begins = s.first ∙ sym (first_on base front back);
      } in
      let own = write at o.size (first_of base o.rest) in
      rw (new, o.head)
      (links front middle own (bounds h m g front back s).inside (sym (put_one base k (first_of base o.rest) m)))

  -- ---- the hole before the span touches it

  -- its head is written again, with a larger size; the link to it is as it was
  insert_longer : Last h m g front back → Touches m prev at
      → Linked h.base m (freed g (front ++ back))
      (relinked h.first (write prev ((head_at m prev).size + head.size) head.next) None)
  unfolding first_of put written
  insert_longer t touches =
      let o = one h m g front back s in
      let base = h.base in
      let lo = h.bottom.0 in
      let hi = base.0 + h.len in
      let f = s.fair in
      let k = t.hole in
      let ks = t.others in
      let j = hole k.addr (k.size + o.size) in
      let ends : (end k).0 ≡ g.addr.0 = omega (arith, span_low h m g front back s, rw (t.head, t.place) at touches.1) in
      let parts : front ++ back ≡ ks ++ (k ∷ back) = rw t.list (append_assoc ks (k ∷ []) back) in
      let new : freed g (front ++ back) ≡ ks ++ ((j ∷ []) ++ o.rest) =
      rw parts (freed_touch lo (end k).0 g k ks back t.rises ends ∙ rw (o.joins k ends)) in
      let before = rises_front lo (end k).0 ks (k ∷ []) t.rises in
      let last = rises_back lo (end k).0 ks (k ∷ []) t.rises in
      let longer : g.addr.0 + o.size ≡ (end j).0 = omega arith in
      let rises =
      rises_append lo (end_or lo ks) hi ks (j ∷ o.rest) before (last.0, omega arith, rw longer at o.rises) in
      let middle : Middle base m ks (j ∷ []) o.rest (place_of base k.addr) h.first =
      record {
        lo = lo;
        hi = hi;
        bytes = s.bytes;
        low = f.bottom;
        small = omega arith;
        lent = omega (arith, s.lent);
        rises = rises;
        before = t.before;
        behind = o.holds;
        begins = s.first ∙ rw parts (sym (first_on base ks (k ∷ back)));
      } in
      let own = write (place_of base k.addr) (k.size + o.size) (first_of base o.rest) in
      rw (new, t.head, t.place, o.head)
      (keeps middle refl
      (record {
        one = (rw t.place at (bounds h m g front back s).before) (rw t.place at touches.0);
        two = tt;
        arena = sym (put_one base j (first_of base o.rest) m);
      }))

-- ---- by the places of a cursor

module _ {h : Heap} {m : List ℕ} {cursor : Cursor} {g : Hole} (s : Settled h m) (f : Free h (holes h m) cursor g) where
  pub may_merge : MayMerge h.base m g cursor.hole
  may_merge =
      let b = between h m cursor g s f in
      let low = span_low h m g f.front f.back b in
      rw f.next (bounds_behind h m g f.back b.fair b.lent low b.behind b.after)

  pub may_end : MayEnd m cursor.prev
  may_end =
      let own = bounds h m g f.front f.back (between h m cursor g s f) in
      rw f.prev (record { inside = own.before; reach = own.reach })

  -- with the head that the merge behind gives
  module _ {head : Head} (is : head ≡ merged_head h.base m g cursor.hole) where
    pub bounds_at : Bounds h m g cursor.prev head
    bounds_at = rw (is, f.prev, f.next) (bounds h m g f.front f.back (between h m cursor g s f))

    module _ {at : Place} (there : at ≡ place_of h.base g.addr) where
      pub insert_apart : ends_at m cursor.prev at ≡ false
          → Linked h.base m (freed g (holes h m)) (linked_to h.first m cursor.prev at (Some (record { at = at; head = head })))
      insert_apart e =
          let b = between h m cursor g s f in
          let n = rw (f.prev, there) at (ends_apart m cursor.prev at e) in
          rw (is, there, f.list, f.prev, f.next) (insert_own h m g f.front f.back b n)

      pub ends_there : ends_at m cursor.prev at ≡ true → cursor.prev.0 ≡ none.0 → ⊥
      ends_there e = (ends_touch m cursor.prev at e).0

      pub insert_joined : {before : Head} → ends_at m cursor.prev at ≡ true → before ≡ head_at m cursor.prev
          → Linked h.base m (freed g (holes h m))
          (relinked h.first (write cursor.prev (before.size + head.size) head.next) None)
      insert_joined e read =
          let b = between h m cursor g s f in
          let t = rw (f.prev, there) at (ends_touch m cursor.prev at e) in
          let last = neighbour h m g f.front f.back b t.0 in
          rw (is, read, f.list, f.prev, f.next) (insert_longer h m g f.front f.back b last t)
