-- Each fraud can be committed, and no behaviour that commits it meets the statements. One that is to be seen in every call is caught on
-- one heap, where it does not do as ours does; one that is committed once is caught there, by a statement. Assumes nothing.
use mathlib.Core.Path.{◌≡◌, refl, sym, ap, ◌∙◌}
use mathlib.Core.List.Memᴰ
use mathlib.Core.List.{List, [], ◌∷◌, Memᴰ}
use mathlib.Core.Logic.{inl, inr, ⊎_elim}
use Prim.Native.Nat.{ℕ, ◌+◌, ◌-◌, ◌^◌, ◌≤◌}
use native.Mathlib.Omega.{arith}
use lib.ListN.{length, get_or, get_or-replicate}
use Rattle.std.proofs.Common.{Ok, Err}
use Rattle.rules.specs.declared.Addr.{Addr}
use Rattle.rules.specs.declared.Hole.{Hole}
use Rattle.rules.specs.declared.Refusal.TheVariants.{OtherLength, NotSound, BadStretch}
use Rattle.rules.specs.declared.Answer.TheVariants.{Opened, Allocated, Freed, Resized, Extended, Listed, Room}
use Rattle.rules.specs.Kinds.{addr}
use Rattle.rules.specs.Holes.{hole}
use Rattle.rules.specs.Sound.{unopened}
use Rattle.rules.specs.Calls.{allocate, extend, list, room}
use Rattle.rules.specs.Outcome.{After}
use Rattle.rules.specs.Behaviour.{Behaviour}
use Rattle.rules.specs.Statements.{Statements}
use Rattle.demands.specs.Frauds.{Caught, Frauds, left}
use Rattle.rules.proofs.Cases.{by_le}
use Rattle.rules.proofs.SoundWords.{rounds_rounded}
use Rattle.demands.proofs.Premises.{noise, half, halves}
use Rattle.demands.proofs.Settles.{no_rows}
use Rattle.demands.proofs.Determined.{by_outcome}
use Rattle.demands.proofs.Caught.{refused_of, not_swapped, tested, unwrapped, granting, used_one, refitting}
use Rattle.demands.proofs.Culprits.{answering, leaving, writing, all_below, early, passing, refits, granted, uses_low, low_room, round, refit, halves_sound}
use Rattle.demands.proofs.Shown.{stage, stage_bytes, more, opens, shown, does, says, asked, asked_more, two, asked_free, says_freed, empties, one, grants_again, growing, asked_growing, says_resized, says_open}

-- a fraud, with one that commits it
shut : {fraud : Behaviour → Type 0} (culprit : Behaviour) → fraud culprit → ((b : Behaviour) → fraud b → Statements b → ⊥) → Caught fraud
shut culprit commits caught = record { culprit = culprit; commits = commits; caught = caught }

pub frauds : Frauds
frauds =
    record {
      every_opening_refused =
          shut (answering [] (Err NotSound)) (λ base named h m made z. (NotSound, refl))
          (λ b f sb.
          let (r, e) = f (addr 0x1001) 74 unopened stage (omega arith, stage_bytes) refl in
          let q = says_open b sb in
          cc);
      every_allocate_refused =
          shut (answering [] (Err NotSound)) (λ s align h m asks. (NotSound, refl))
          (λ b f sb.
          let (r, e) = f 24 8 half stage (asked b sb (allocate 24 8) (omega arith)) in
          let q = says b sb (allocate 24 8) half (omega arith) shown.low in
          cc);
      every_free_refused =
          shut (answering [] (Err NotSound)) (λ x s align h m asks. (NotSound, refl))
          (λ b f sb.
          let (r, e) = f (addr 0x1020) 16 16 half stage (asked_free b sb) in
          let q = says_freed b sb in
          cc);
      every_call_refused =
          shut (answering [] (Err NotSound)) (λ c h m asks n. refl)
          (λ b f sb.
          let e =
          f list half stage (asked b sb list tt) (λ base named p. cc) in
          let q = says b sb list half tt shown.lists in
          cc);
      tests_swapped =
          shut (answering [] (Err OtherLength)) (list, unopened, [], tt, refl, refl)
          (λ b (c, h, m, f, z, e) sb. not_swapped b sb c h m f z (refused_of b sb c h m OtherLength f e));
      sum_not_tested =
          shut (answering [] (Ok (Room 0 0))) (
            list,
            half,
            [],
            tt,
            (λ z. omega (arith, z)),
            (λ z. omega (arith, z)),
            (λ (r, e). cc),
          )
          (λ b (c, h, m, f, open', n, accepts) sb.
          let (r, e) = tested b sb h m open' n c f in
          accepts (r, (sb.refusals_keep c h m no_rows r e).0));
      wrapped_sum =
          shut (answering halves (Ok (Allocated (addr 0x1008) 1))) (
            allocate (2 ^ 64 - 1) 8,
            half,
            stage,
            omega arith,
            omega arith,
            (λ (r, e). cc),
          )
          (λ b (c, h, m, f, w, accepts) sb.
          let (r, e) = unwrapped b sb c h m f w in
          accepts (r, (sb.refusals_keep c h m no_rows r e).0));
      refused_writes =
          shut (writing (Err NotSound) []) (
            list,
            half,
            0 ∷ [],
            tt,
            (NotSound, refl),
            (λ (e, p). let z : ◌≡◌ {A = ℕ} 0 1 = ap (λ (w : List ℕ). length w) p in omega (arith, z)),
          )
          (λ b (c, h, m, f, (r, e), n) sb.
          let k = sb.refusals_keep c h m no_rows r (refused_of b sb c h m r f e) in
          n (k.1, k.2));
      opening_drops_pending =
          shut (leaving (Ok (Opened (addr 0x1008) 64)) (λ c. unopened)) (λ base bottom named s h m made z e. refl)
          (λ b f sb.
          let e = f (addr 0x1001) (addr 0x1008) 74 64 unopened stage (omega arith, stage_bytes) refl (says_open b sb) in
          let q = ap (λ (x : After). x.heap.pending) (does b sb opens unopened (omega arith)) in
          omega (arith, shown.rest, e, q));
      pending_in_size =
          shut (leaving (Ok (Opened (addr 0x1008) 64)) all_below) (λ base bottom named s h m made z e. refl)
          (λ b f sb.
          let e = f (addr 0x1001) (addr 0x1008) 74 64 unopened stage (omega arith, stage_bytes) refl (says_open b sb) in
          let q = ap (λ (x : After). x.heap.top.0) (does b sb opens unopened (omega arith)) in
          omega (arith, shown.tops, e, q));
      unopened_not_zero =
          shut early (λ z. omega (arith, z))
          (λ b n sb. n sb.unopened_is.first);
      fixed_address =
          shut (answering [] (Ok (Allocated (addr 0x1008) 1)))
          ((λ h. addr 0x1008), (λ s align n x h m asks e. cc))
          (λ b (a, f) sb.
          let p =
          f 24 8 1 (addr 0x1008) half stage (asked b sb (allocate 24 8) (omega arith))
          (says b sb (allocate 24 8) half (omega arith) shown.low) in
          let q =
          f 24 16 2 (addr 0x1030) half stage (asked b sb (allocate 24 16) (omega arith))
          (says b sb (allocate 24 16) half (omega arith) shown.high) in
          let z : ◌≡◌ {A = ℕ} 0x1008 0x1030 = ap (λ (x : Addr). x.0) (p ∙ sym q) in
          omega (arith, z));
      invented_count =
          shut (answering halves (Ok (Allocated (addr 0x1008) 7)))
          (granted halves 24 0x1008 7 (omega arith), uses_low 24 0x1008 7 (omega arith) (omega arith), (λ z. omega (arith, z)))
          (λ b (g, u, n) sb. n ((granting b sb g).count ∙ ap (λ (js : List Hole). length js + 1) (used_one b sb g u).0));
      front_of_eight =
          shut (answering halves (Ok (Allocated (addr 0x1010) 1)))
          (granted halves 16 0x1010 1 (omega arith), uses_low 16 0x1010 1 (omega arith) (omega arith), refl)
          (λ b (g, u, e) sb.
          let gap = rw (used_one b sb g u).1 at (granting b sb g).lies.front in
          ⊎_elim (λ p. omega (arith, e, p)) (λ p. omega (arith, e, p)) gap);
      remainder_kept =
          shut (answering halves (Ok (Allocated (addr 0x1008) 1))) (
            granted halves 16 0x1008 1 (omega arith),
            uses_low 16 0x1008 1 (omega arith) (omega arith),
            16,
            round 16 refl (omega arith),
            refl,
          )
          (λ b (g, u, r, rounds, e) sb.
          let d = granting b sb g in
          let is : d.rounded ≡ r = rounds_rounded d.rounds ∙ sym (rounds_rounded rounds) in
          let gap = rw ((used_one b sb g u).1, is) at d.lies.back in
          ⊎_elim (λ p. omega (arith, e, p)) (λ p. omega (arith, e, p)) gap);
      not_the_lowest =
          shut (answering halves (Ok (Allocated (addr 0x1030) 2)))
          (granted halves 24 0x1030 2 (omega arith), 24, round 24 refl (omega arith), 0x1008, low_room, omega arith)
          (λ b (g, r, rounds, x, some, l) sb.
          let d = granting b sb g in
          let is : r ≡ d.rounded = rounds_rounded rounds ∙ sym (rounds_rounded d.rounds) in
          omega (arith, l, d.lowest x (rw is at some)));
      not_free =
          shut (answering [] (Ok (Allocated (addr 0x1020) 1))) (
            granted [] 16 0x1020 1 (omega arith),
            16,
            round 16 refl (omega arith),
            0x1020,
            omega arith,
            (λ (k, in', w). Memᴰ.not-nil in'),
          )
          (λ b (g, r, rounds, y, w, n) sb.
          let d = granting b sb g in
          let is : r ≡ d.rounded = rounds_rounded rounds ∙ sym (rounds_rounded d.rounds) in
          n (
            d.hole,
            rw d.one (Memᴰ.append_right d.front (Memᴰ.head refl)),
            (omega (arith, w.0, d.lies.from), omega (arith, w.1, is, d.lies.to)),
          ));
      never_reused =
          shut passing
          (λ x s align r u t q n h m asks fits e p.
          let z : addr (x.0 + 1) ≡ x = cc in
          omega (arith, ap (λ (a : Addr). a.0) z))
          (λ b f sb.
          f (addr 0x1020) 16 16 16 0 16 16 1 half stage (asked_free b sb) (omega arith) (says_freed b sb)
          (rw (empties b sb) (grants_again b sb)));
      free_does_nothing =
          shut (answering halves (Ok (Freed 16 0))) (λ x s align r u h m asks e. refl)
          (λ b f sb.
          let p = f (addr 0x1020) 16 16 16 0 half stage (asked_free b sb) (says_freed b sb) in
          let q = rw (empties b sb) at p in
          let z : ◌≡◌ {A = ℕ} 1 2 = ap (λ (ks : List Hole). length ks) (sym (one b sb) ∙ q ∙ two b sb) in
          omega (arith, z));
      free_keeps_used =
          shut (answering halves (Ok (Freed 16 0))) (λ x s align r u h m asks e. refl)
          (λ b f sb.
          let p = f (addr 0x1020) 16 16 16 0 half stage (asked_free b sb) (says_freed b sb) in
          let q = ap (λ (x : After). x.heap.used) (empties b sb) in
          omega (arith, p, q, shown.empty));
      joins_before_only =
          shut (answering halves (Ok (Freed 16 0))) (λ x s align r u h m k asks e in' ends. in')
          (λ b f sb.
          let p =
          f (addr 0x1020) 16 16 16 0 half stage (hole (addr 0x1030) 24) (asked_free b sb) (says_freed b sb)
          (rw (two b sb) (Memᴰ.tail (Memᴰ.head refl))) refl in
          let q : Memᴰ (hole (addr 0x1030) 24) (hole (addr 0x1008) 64 ∷ []) = rw (empties b sb, one b sb) at p in
          ⊎_elim
          (λ e. let z : ◌≡◌ {A = ℕ} 24 64 = ap (λ (k : Hole). k.size) e in omega (arith, z))
          (λ d. Memᴰ.not-nil d)
          (Memᴰ.cases_cons q));
      resize_moves =
          shut (refits 24 (hole (addr 0x1020) 40 ∷ [])) (
            refit 24 refl (omega arith) (omega arith) refl,
            0x1020,
            (omega arith, omega arith),
            (hole (addr 0x1020) 40, Memᴰ.head refl, omega arith),
          )
          (λ b (g, y, both, v) sb. ((refitting b sb g).leaves.vacant y v).1 both.1);
      resize_leaves_eight =
          shut (refits 32 (hole (addr 0x1008) 24 ∷ hole (addr 0x1040) 8 ∷ [])) (
            refit 32 refl (omega arith) (omega arith) refl,
            0x1048,
            inl (hole (addr 0x1030) 24, Memᴰ.tail (Memᴰ.head refl), refl, refl),
            refl,
          )
          (λ b (g, e, ends, l) sb.
          (refitting b sb g).stretch (e, ends, (λ gap. ⊎_elim (λ p. omega (arith, l, p)) (λ p. omega (arith, l, p)) gap)));
      resize_takes_before =
          shut (refits 40 (hole (addr 0x1030) 24 ∷ [])) (
            refit 40 refl (omega arith) (omega arith) refl,
            0x1008,
            omega arith,
            (hole (addr 0x1008) 24, Memᴰ.head refl, omega arith),
            (λ (k, in', w).
                ⊎_elim
                (λ e. let z : k.addr.0 ≡ 0x1030 = ap (λ (j : Hole). j.addr.0) e in omega (arith, z, w.0))
                (λ d. Memᴰ.not-nil d)
                (Memᴰ.cases_cons in')),
          )
          (λ b (g, y, l, v, n) sb. n ((refitting b sb g).leaves.becomes_free y (inl v) (λ w. omega (arith, l, w.0))));
      resize_forgets_used =
          shut (answering halves (Ok (Resized 40 40))) (λ x s align n q u h m asks e. refl)
          (λ b f sb.
          let p = f (addr 0x1020) 16 16 40 40 40 half stage (asked_growing b sb) (says_resized b sb) in
          let q = ap (λ (x : After). x.heap.used) (does b sb growing half (omega arith)) in
          omega (arith, p, q, shown.larger));
      resize_keeps_eaten =
          shut (refits 40 halves) (
            refit 40 refl (omega arith) (omega arith) refl,
            hole (addr 0x1030) 24,
            Memᴰ.tail (Memᴰ.head refl),
            refl,
            omega arith,
            Memᴰ.tail (Memᴰ.head refl),
          )
          (λ b (g, k, was, e, l, in') sb.
          let d = (refitting b sb g).leaves in
          let z = (d.sound.1.each k in').sixteen in
          (d.vacant k.addr.0 (k, in', (omega arith, omega (arith, z)))).1 (omega (arith, e), omega (arith, e, l)));
      resize_refuses_growth =
          shut (answering halves (Err BadStretch)) (λ x s align n r q h m asks old new l. (BadStretch, refl))
          (λ b f sb.
          let (r, e) =
          f (addr 0x1020) 16 16 40 16 40 half stage (asked_growing b sb) (round 16 refl (omega arith)) (round 40 refl (omega arith))
          (omega arith) in
          let q = says_resized b sb in
          cc);
      resize_overwrites =
          shut (writing (Ok (Resized 40 40)) (noise 0)) (
            refit 40 refl (omega arith) (omega arith) refl,
            0x1020,
            (omega arith, omega arith),
            (λ e. omega (arith, e, shown.held, get_or-replicate {A = ℕ} 96 31 0 0 (omega arith))),
          )
          (λ b (g, y, both, n) sb.
          let d = refitting b sb g in
          let s = d.leaves.sound in
          let base = ap (λ (a : Addr). a.0) d.leaves.becomes.base in
          let above : (left b g).heap.bottom.0 ≤ g.at.0 =
          by_le g.heap.bottom.0 g.at.0
          (λ l. omega (arith, l, ap (λ (a : Addr). a.0) d.leaves.becomes.bottom))
          (λ l. absurd (d.span (inr (inr (inl l))))) in
          n (d.stay (y - g.heap.base.0)
          (λ k in' w.
          let t = s.1.each k in' in
          (d.leaves.vacant y (
            k,
            in',
            (
              omega (arith, w.0, base, above, both.0.0, t.from, s.0.bottom.above),
              omega (arith, w.1, base, above, both.0.0, t.from, t.sixteen, s.0.bottom.above),
            ),
          )).1 both.1)));
      extend_loses_pending =
          shut (answering halves (Ok (Extended 80 1))) ((λ by. 1), (λ by s p h m asks l e. cc))
          (λ b (left, f) sb.
          let p =
          f 14 80 1 half stage (asked b sb (extend 14) (omega arith)) (omega arith)
          (says b sb (extend 14) half (omega arith) shown.grows) in
          let q =
          f 14 80 2 more stage (asked_more b sb (extend 14) (omega arith)) (omega arith)
          (says b sb (extend 14) more (omega arith) shown.grows_more) in
          omega (arith, p, q));
      list_zeros =
          shut (answering [] (Ok (Listed 0 0))) (λ x y h m asks e. inl (cc))
          (λ b f sb.
          ⊎_elim (λ z. omega (arith, z)) (λ z. omega (arith, z))
          (f 2 48 half stage (asked b sb list tt) (says b sb list half tt shown.lists)));
      room_zeros =
          shut (answering [] (Ok (Room 0 0))) (λ align x y h m asks e. inl (cc))
          (λ b f sb.
          ⊎_elim (λ z. omega (arith, z)) (λ z. omega (arith, z))
          (f 8 24 2 half stage (asked b sb (room 8) (omega arith)) (says b sb (room 8) half (omega arith) shown.reports)));
      room_forgets_alignment =
          shut (answering halves (Ok (Room 24 2)))
          (λ align x y h m k asks e in'.
          let z : x ≡ 24 = cc in
          ⊎_elim
          (λ q. let s : k.size ≡ 24 = ap (λ (j : Hole). j.size) q in omega arith)
          (λ d. ⊎_elim (λ q. let s : k.size ≡ 24 = ap (λ (j : Hole). j.size) q in omega arith) (λ d. absurd (Memᴰ.not-nil d)) (Memᴰ.cases_cons d))
          (Memᴰ.cases_cons in'))
          (λ b f sb.
          let l =
          f 32 0 2 half stage (hole (addr 0x1030) 24) (asked b sb (room 32) (omega arith))
          (says b sb (room 32) half (omega arith) shown.crooked) (rw (two b sb) (Memᴰ.tail (Memᴰ.head refl))) in
          omega (arith, l));
      room_says_sixteen =
          shut (answering [] (Ok (Room 16 1))) (λ align x y h m asks e. inr (cc))
          (λ b f sb.
          ⊎_elim (λ z. omega (arith, z)) (λ z. omega (arith, z))
          (f 8 24 2 half stage (asked b sb (room 8) (omega arith)) (says b sb (room 8) half (omega arith) shown.reports)));
      scribble =
          shut (writing (Ok (Room 0 0)) (1 ∷ []))
          (list, half, 0 ∷ [], 0, tt, (λ k in' w. Memᴰ.not-nil in'), (λ e. let z : ◌≡◌ {A = ℕ} 1 0 = e in omega (arith, z)))
          (λ b (c, h, m, i, f, out, n) sb.
          by_outcome (b.outcome c h m)
          (λ r p. n (ap (λ (w : List ℕ). get_or w i 0) (sb.refusals_keep c h m no_rows r p).2))
          (λ a ks p. n (ap (λ (w : List ℕ). get_or w i 0) (sb.tells_only c h m a ks p).2))
          (λ a h' ks p.
          let k = sb.memory c h m a h' ks f p in
          n (k.4 i (rw (k.1, k.3) at out))));
      head_turned =
          shut (answering halves (Ok (Room 0 0))) (
            half,
            [],
            hole (addr 0x1008) 24,
            hole (addr 0x1030) 24 ∷ [],
            halves_sound,
            refl,
            (λ e. let z : ◌≡◌ {A = ℕ} 24 0 = e in omega (arith, z)),
          )
          (λ b (h, m, k, back, s, e, n) sb. n (rw e at ((sb.holes_mean h m).1 s)).2);
    }
