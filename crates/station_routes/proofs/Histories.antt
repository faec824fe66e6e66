-- What stands in a history stands in a longer one through a call, which is not refused: start, feed and merge. Assumes nothing.
use mathlib.Core.Path.{◌≡◌, refl, sym, ap, ap₂, ◌∙◌}
use mathlib.Core.Bool.{true}
use mathlib.Core.List.{List, [], ◌∷◌, ◌++◌}
use mathlib.Core.Logic.{inl, inr}
use Prim.Native.Nat.{ℕ, ◌*◌, ◌^◌, ◌≤◌}
use native.Mathlib.Omega.{arith}
use lib.ListN.{length, take}
use lib.Seq.{take-length}
use borrow.Author.Tests.{eq-eqb}
use Rattle.model.specs.Sketch.{Shaped, Good}
use Rattle.model.specs.Check.{scratch_fits, check_no}
use Rattle.model.proofs.calls.Rungs.{check_area}
use Rattle.model.specs.Calls.{Out, start_of, batch_of, feed_of, merge_no, merge_of}
use Rattle.model.specs.History.{Place, here, World, Call, start, feed, merge, put, feeds, merges, step, after, run, Stands}
use Rattle.model.specs.Claims.{Scratch, FeedLine}
use Rattle.model.specs.declared.Sketch.{Sketch}
use Rattle.model.proofs.calls.Ladder.{shape_says}
use Rattle.model.proofs.order.Tells.{tells_true}
use Rattle.model.proofs.order.Tests.{scratch_tells}
use Rattle.model.proofs.calls.Has.{ok_check, good_bytes, start_has, batch_line, feed_is, merge_says, merge_has}
use Rattle.model.proofs.histories.Demands.{holds_stands}
use Rattle.model.proofs.Claims.{feed_keeps, twice_is_room}
use Rattle.station_routes.proofs.Beside.{after_append, even, odd, both, beside_even, beside_odd}

-- what a call gives back stands
abbrev pub Gives : ℕ → ℕ → List ℕ → Out → Type 0
Gives kind lgk got o = Stands kind lgk got o.sketch o.regs o.aux

-- and is in good order
pub stands_good : {kind lgk : ℕ} {got : List ℕ} {s : Sketch} {regs aux : List ℕ} → Stands kind lgk got s regs aux → Good s regs aux
stands_good h = (holds_stands h).good

-- ---- one more call, and what it puts at its number
module _ (cs : List Call) (n : ℕ) (c : Call) (f : World → Place) (puts : (w : World) → step w c ≡ put w n (f w)) where
  pub one_more : run (cs ++ (c ∷ [])) n ≡ f (run cs)
  unfolding after
  one_more = ap (λ (w : World). w n) (after_append _ cs (c ∷ []) ∙ puts (run cs)) ∙ rw (eq-eqb n n refl)

-- ---- start
module _ (kind lgk : ℕ) (mem area : List ℕ) {o : Out} (e : o ≡ start_of kind lgk mem area) (h : Shaped kind lgk (length mem)) where
  pub start_goes : (start_of kind lgk mem area).no ≡ 0
  start_goes = (start_has kind lgk mem area ((shape_says kind lgk (length mem)).1 h)).0

  pub stands_start : Gives kind lgk [] o
  unfolding after step
  stands_start =
      let m = start_has kind lgk mem area ((shape_says kind lgk (length mem)).1 h) in
      rw e (record { calls = start 0 kind lgk mem area ∷ []; number = 0; stands = rw m.0; same_kind = m.1.same_kind; same_size = m.1.same_size })

-- ---- feed: where kind 4 has two words a register, all coupons are taken
module _ {kind lgk : ℕ} {got : List ℕ} {s : Sketch} {regs aux : List ℕ} (scratch cs : List ℕ) {o : Out} (e : o ≡ feed_of s regs aux scratch cs)
    (h : Stands kind lgk got s regs aux) (room : kind ≡ 4 → 2 * 2 ^ lgk ≤ length aux) (scratched : Scratch kind aux scratch) where
  abbrev p : Out
  p = feed_of s regs aux scratch cs

  took : {count answer : ℕ} → p.no ≡ answer → FeedLine s regs aux cs count answer → (answer ≡ 0) × (count ≡ length cs)
  took q (inl (n, m, g)) = (n, m)
  took q (inr (n, m, x, g)) = absurd ((twice_is_room s regs aux scratch cs [] (good_bytes (stands_good h)) (rw h.same_size (room (sym h.same_kind ∙ x.0)))).0 (q ∙ n))

  is : p ≡ batch_of s regs aux cs
  is =
      let fits : scratch_fits s.kind (length aux) (length scratch) ≡ true = tells_true _ (scratch_tells s.kind aux scratch) (rw h.same_kind scratched) in
      feed_is s regs aux scratch cs (ok_check _ s regs aux fits (stands_good h))

  took_all : ((batch_of s regs aux cs).no ≡ 0) × ((batch_of s regs aux cs).count ≡ length cs)
  took_all = took (ap (λ (q : Out). q.no) is) (batch_line s regs aux cs (stands_good h))

  pub feed_goes : p.no ≡ 0
  feed_goes = ap (λ (q : Out). q.no) is ∙ took_all.0

  pub stands_feed : Gives kind lgk (got ++ cs) o
  unfolding step feeds
  stands_feed =
      let m = feed_keeps s regs aux scratch cs (stands_good h) in
      let all : take p.count cs ≡ cs = ap (λ (k : ℕ). take k cs) (ap (λ (q : Out). q.count) is ∙ took_all.1) ∙ take-length cs in
      let call = feed h.number scratch cs in
      let fed = feeds (λ s regs aux. feed_of s regs aux scratch cs) cs in
      rw e (record {
        calls = h.calls ++ (call ∷ []);
        number = h.number;
        stands = one_more h.calls h.number call (λ w. fed (w h.number)) (λ w. refl) ∙ ap fed h.stands ∙ ap (λ (l : List ℕ). here p.sketch p.regs p.aux (got ++ l)) all;
        same_kind = m.same_kind ∙ h.same_kind;
        same_size = m.same_size ∙ h.same_size;
      })

-- ---- merge: the two histories go side by side
-- kind 8 has no use for the area
eight_check : (s : Sketch) (regs aux aux' : List ℕ) → s.kind ≡ 8 → check_no true s regs aux ≡ check_no true s regs aux'
eight_check s regs aux aux' e = check_area true s regs aux aux' (λ q. omega arith)

module _ {kind lgk lgk' : ℕ} {got also : List ℕ} {t s : Sketch} {tregs taux sregs saux : List ℕ} {o : Out} (e : o ≡ merge_of t tregs s sregs saux)
    (h : Stands 8 lgk got t tregs taux) (j : Stands kind lgk' also s sregs saux) (le : lgk ≤ lgk') where
  accepted : merge_no t tregs s sregs saux ≡ 0
  accepted =
      let mine = eight_check t tregs [] taux h.same_kind ∙ ok_check true t tregs taux refl (stands_good h) in
      (merge_says t tregs s sregs saux).1 ((h.same_kind, mine), (ok_check true s sregs saux refl (stands_good j), rw (h.same_size, j.same_size) le))

  pub merge_goes : (merge_of t tregs s sregs saux).no ≡ 0
  merge_goes = (merge_has t tregs taux s sregs saux (stands_good h) (stands_good j) accepted).0

  pub stands_merge : Stands 8 lgk (got ++ also) o.sketch o.regs taux
  unfolding step merges
  stands_merge =
      let m = merge_has t tregs taux s sregs saux (stands_good h) (stands_good j) accepted in
      let n = even h.number in
      let k = odd j.number in
      let cs = both h.calls j.calls in
      rw e (record {
        calls = cs ++ (merge n k ∷ []);
        number = n;
        stands =
            one_more cs n (merge n k) (λ w. merges (w n) (w k)) (λ w. refl)
            ∙ ap₂ merges (beside_even h.calls j.calls h.number ∙ h.stands) (beside_odd h.calls j.calls j.number ∙ j.stands)
            ∙ rw m.0;
        same_kind = m.1.same_kind;
        same_size = m.1.same_size ∙ h.same_size;
      })
