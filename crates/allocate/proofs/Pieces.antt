-- The hole that an allocation found, used and split: the few heads to be written are those of the new list. Assumes nothing.
use mathlib.Core.Path.{◌≡◌, sym, ◌∙◌}
use mathlib.Core.List.{List, ◌∷◌, ◌++◌}
use Prim.Native.Nat.{ℕ, ◌+◌, ◌≤◌, ◌<◌}
use native.Mathlib.Omega.{arith}
use lib.ListN.{length}
use Rattle.std.proofs.Common.{Ok, Option, None}
use borrow.Author.Tests.{eq-eqb, ne_eqb}
use Rattle.rules.specs.Fixed.{min_size, addr_limit}
use Rattle.rules.specs.Kinds.{place_of, plus, none}
use Rattle.rules.specs.Holes.{end, first_of}
use Rattle.rules.specs.Sound.{holes}
use Rattle.rules.specs.Allocate.{candidate, remains, split}
use Rattle.rules.specs.Calls.{taken}
use Rattle.rules.specs.declared.Addr.{Addr}
use Rattle.rules.specs.declared.Place.{Place}
use Rattle.rules.specs.declared.Hole.{Hole}
use Rattle.rules.specs.declared.Heap.{Heap}
use Rattle.rules.specs.declared.Write.{Write}
use Rattle.rules.specs.declared.Answer.TheVariants.{Allocated}
use Rattle.rules.specs.Inner.{first_or, put_heads_to, put, written, Lands, Fulfils, Rises, end_or}
use Rattle.rules.proofs.Cases.{by_eq}
use Rattle.rules.proofs.Powers.{power_pos}
use Rattle.rules.proofs.Rises.{rises_le, rises_front, rises_back}
use Rattle.rules.proofs.Lists.{holds_split}
use Rattle.rules.proofs.Relink.{put_append}
use Rattle.rules.proofs.Used.{candidate_low, suits_fits, suits_leaves, used_rises, find_total}
use Rattle.rules.proofs.Written.{fulfils_changed}
use Rattle.layout.specs.Asked.{Asked}
use Rattle.layout.proofs.Aligned.{asked_power}
use Rattle.walk.specs.declared.Fit.{Fit}
use Rattle.walk.proofs.ToFit.{Fits}
use Rattle.walk.specs.Settled.{Settled}
use Rattle.walk.proofs.Stands.{stands}
use Rattle.joining.specs.declared.Relinked.{Relinked}
use Rattle.joining.proofs.Linked.{Linked, Middle, last_inside, front_rises, first_on, keeps, links}
use Rattle.joining.specs.Span.{remainder, leads_to}
use Rattle.joining.proofs.Remainder.{remainder_none, remainder_some, remainder_put, remainder_first, remainder_lands}
use Rattle.allocate.specs.Granted.{split_to, granted}

-- ---- the hole that the search found

-- the sums and the tests of the code
pub record Room (h : Heap) (len want align : ℕ) (f : Fit) : Type 0 where
  pub low : h.base.0 ≤ f.hole.addr.0
  pub least : min_size ≤ f.hole.size
  pub inside : (end f.hole).0 ≤ h.base.0 + len
  pub limit : h.base.0 + len ≤ addr_limit
  pub start : f.hole.addr.0 ≤ (candidate align f.hole.addr).0
  pub stop : (candidate align f.hole.addr).0 + want ≤ (end f.hole).0
  pub rear : ((candidate align f.hole.addr).0 + want ≡ (end f.hole).0 → ⊥)
      → (candidate align f.hole.addr).0 + want + min_size ≤ (end f.hole).0
  pub grows : h.used + want ≤ addr_limit
  pub before : (f.cursor.prev.0 ≡ none.0 → ⊥) → f.cursor.prev.0 + min_size ≤ len

module _
    (h : Heap)
    (m : List ℕ)
    (want align : ℕ)
    {f : Fit}
    (settled : Settled h m)
    (asked : Asked want align)
    (fits : Fits h want align (holes h m) f)
  where
    pos : 0 < align
    pos = power_pos (asked_power asked)

    listed : Rises h.bottom.0 h.top.0 (fits.front ++ (f.hole ∷ fits.back))
    listed = rw fits.list at (stands h m settled).rises

    pub room : Room h (length m) want align f
    room =
        let fair = settled.ready.lent.fair in
        let lo = h.bottom.0 in
        let hi = h.top.0 in
        let k = f.hole in
        let s = stands h m settled in
        let r = rises_back lo hi fits.front (k ∷ fits.back) listed in
        let e = rises_le (end k).0 hi fits.back r.2 in
        let l = rises_le lo (end_or lo fits.front) fits.front (rises_front lo hi fits.front (k ∷ fits.back) listed) in
        let t = find_total want align (holes h m) fits.front fits.back k pos fits.found in
        let len = settled.ready.lent.lent in
        record {
          low = omega arith;
          least = r.1;
          inside = omega arith;
          limit = omega arith;
          start = candidate_low align k.addr pos;
          stop = suits_fits want align k fits.suits;
          rear = suits_leaves want align k fits.suits;
          grows = omega arith;
          before =
              rw fits.prev
              (last_inside h.base lo hi (length m) fits.front fair.bottom (omega arith)
              (front_rises lo hi fits.front (k ∷ fits.back) listed));
        }

    -- ---- its pieces, and the list with them in its place

    abbrev start : Addr
    start = candidate align f.hole.addr

    abbrev stop : Addr
    stop = plus start want

    abbrev behind : List Hole
    behind = remains stop (end f.hole)

    middle : Middle h.base m fits.front (split want align f.hole) fits.back (place_of h.base f.hole.addr) h.first
    unfolding first_of
    middle =
        let fair = settled.ready.lent.fair in
        let s = stands h m settled in
        let k = f.hole in
        let parts = holds_split h.base m fits.front (k ∷ fits.back) none (rw fits.list at s.heads) in
        record {
          lo = h.bottom.0;
          hi = h.top.0;
          bytes = settled.ready.bytes;
          low = fair.bottom;
          small = omega arith;
          lent = omega (arith, settled.ready.lent.lent);
          rises = used_rises want align k fits.suits pos h.bottom.0 h.top.0 fits.front fits.back listed;
          before = parts.0;
          behind = parts.1.1;
          begins = s.first ∙ rw fits.list (sym (first_on h.base fits.front (k ∷ fits.back)));
        }

    module _ {rear front : Option Write} {to : Place}
        (rear_is : rear ≡ remainder h.base stop (end f.hole) f.next)
        (to_is : to ≡ leads_to rear f.next)
        (front_is : front ≡ remainder h.base f.hole.addr start to)
      where
        abbrev List' : List Hole
        List' = fits.front ++ (split want align f.hole ++ fits.back)

        to_behind : to ≡ first_or h.base behind (first_of h.base fits.back)
        to_behind = to_is ∙ rw (rear_is, ← fits.next) (remainder_first h.base stop (end f.hole) f.next)

        rear_lands : Lands m rear
        rear_lands =
            let r = room in
            rw rear_is (remainder_lands h.base stop (end f.hole) f.next m (λ n. let l = r.rear n in omega arith))

        rear_put : put rear m ≡ put_heads_to h.base behind (first_of h.base fits.back) m
        rear_put = rw (rear_is, ← fits.next) (remainder_put h.base stop (end f.hole) f.next m)

        front_put : (w : List ℕ) → put front w ≡ put_heads_to h.base (remains f.hole.addr start) to w
        front_put w = rw front_is (remainder_put h.base f.hole.addr start to w)

        both_put : put front (put rear m) ≡ put_heads_to h.base (split want align f.hole) (first_of h.base fits.back) m
        unfolding split
        both_put =
            let q = first_of h.base fits.back in
            let rest = put_heads_to h.base behind q m in
            let one : put front (put rear m) ≡ put front rest = rw rear_put in
            let two : put_heads_to h.base (remains f.hole.addr start) to rest ≡ put_heads_to h.base (split want align f.hole) q m =
            rw to_behind (sym (put_append h.base (remains f.hole.addr start) behind q m)) in
            one ∙ front_put rest ∙ two

        -- nothing remains in front: the hole before leads to what comes behind
        no_front : f.hole.addr.0 ≡ start.0 → Linked h.base m List' (split_to h.first m f.cursor.prev front rear to)
        unfolding split_to split remains
        no_front e =
            let pieces : split want align f.hole ≡ behind = rw (eq-eqb f.hole.addr.0 start.0 e) in
            let to_first : to ≡ first_of h.base (split want align f.hole ++ fits.back) =
            to_behind ∙ rw pieces (first_on h.base behind fits.back) in
            let front_none : front ≡ None = front_is ∙ remainder_none h.base f.hole.addr start to e in
            rw (front_none, fits.prev, to_first)
            (links fits.front middle rear rear_lands (rear_put ∙ rw pieces))

        -- what remains in front stands where the hole stood
        a_front : (f.hole.addr.0 ≡ start.0 → ⊥) → Linked h.base m List' (split_to h.first m f.cursor.prev front rear to)
        unfolding split_to split remains first_of written
        a_front n =
            let r = room in
            let front_some = front_is ∙ remainder_some h.base f.hole.addr start to n in
            let leads : place_of h.base f.hole.addr ≡ first_of h.base (split want align f.hole ++ fits.back) =
            rw (ne_eqb f.hole.addr.0 start.0 n) in
            let lands : Lands m front = rw front_is (remainder_lands h.base f.hole.addr start to m (λ z. omega arith)) in
            let list = keeps middle leads (record { one = rear_lands; two = lands; arena = both_put }) in
            rw front_some (rw front_some at list)

        pub split_list : Linked h.base m List' (split_to h.first m f.cursor.prev front rear to)
        split_list = by_eq f.hole.addr.0 start.0 no_front a_front

    -- what the code makes of it, one after the other, is the outcome
    pub split_is : {at : Addr} {rear front : Option Write} {to : Place} {r : Relinked}
        → at ≡ start
        → rear ≡ remainder h.base (plus at want) (end f.hole) f.next
        → to ≡ leads_to rear f.next
        → front ≡ remainder h.base f.hole.addr at to
        → r ≡ split_to h.first m f.cursor.prev front rear to
        → Fulfils (granted want align h m) h m
        (Ok
        (record {
          heap =
              record {
                base = h.base;
                len = h.len;
                bottom = h.bottom;
                top = h.top;
                first = r.first;
                pending = h.pending;
                used = h.used + want;
              };
          answer = Allocated at f.count;
          heads = r.heads;
        }))
    unfolding taken
    split_is i₁ i₂ i₃ i₄ i₅ =
        let count : f.count ≡ length fits.front + 1 = omega (arith, fits.counted) in
        let list = split_list (i₂ ∙ rw i₁) i₃ (i₄ ∙ rw i₁) in
        rw (fits.found, i₁, count, i₅)
        (fulfils_changed h m (Allocated start (length fits.front + 1))
        (fits.front ++ (split want align f.hole ++ fits.back)) h.top h.pending (h.used + want) list)
