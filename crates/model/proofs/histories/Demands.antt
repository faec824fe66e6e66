-- Demands 2 and 3 over any history: every sketch is in good order, and each register is the largest value of what has reached it.
-- Of the calls only `start_has`, `feed_keeps`, `feed_image_keeps`, `merge_has` and `sent_again` are cited, and that a refused call changes nothing. Assumes nothing.
use mathlib.Core.Path.{◌≡◌, refl, sym, ap, ◌∙◌, subst}
use mathlib.Core.List.{List, [], ◌∷◌, ◌++◌}
use mathlib.Core.Bool.{Bool, true, false}
use Prim.Native.Nat.{ℕ, ◌^◌, ◌<◌}
use lib.ListN.{length, get_or, take, get_or-replicate}
use lib.Dec.{eqb}
use borrow.Author.Tests.{eqb-true}
use Rattle.model.specs.Pick.{pick}
use Rattle.model.specs.Registers.{largest}
use Rattle.model.specs.Sketch.{registers, Good}
use Rattle.model.specs.Check.{shape_no}
use Rattle.model.specs.Calls.{Out, start_of, merge_no, merge_of}
use Rattle.model.specs.Lists.{coupons_in}
use Rattle.model.specs.History.{Place, none, here, World, Call, start, feed, feed_image, merge, send, put, makes, feeds, merges, sends, step, after, run, Stands}
use Rattle.model.specs.Claims.{Keeps, FedTaken, Demand2}
use Rattle.model.specs.declared.Sketch.{Sketch}
use Rattle.model.proofs.calls.Picked.{picked}
use Rattle.model.proofs.registers.Largest.{fed_at, joined_at, is_largest, largest_append}
use Rattle.model.proofs.calls.Has.{start_has, merge_says, merge_has, registers_long}
use Rattle.model.proofs.calls.Standing.{keeps_has, feed_keeps, feed_image_keeps}
use Rattle.model.proofs.image.Sending.{sent_again, sent_good}

-- each register is the largest value of what has reached the sketch
abbrev pub Each : ℕ → List ℕ → List ℕ → Type 0
Each lgk R got = (i : ℕ) → i < 2 ^ lgk → get_or R i 0 ≡ largest (2 ^ lgk) i got

pub record Holding (s : Sketch) (regs aux got : List ℕ) : Type 0 where
  pub good : Good s regs aux
  pub each : Each s.lg_k (registers s regs aux) got

abbrev pub Holds : Place → Type 0
Holds none = Unit {0}
Holds (here s regs aux got) = Holding s regs aux got

-- from what a call leaves to what is kept
hold : (kind lgk : ℕ) (R : List ℕ) (s : Sketch) (regs aux got : List ℕ) → Keeps kind lgk R s regs aux → Each lgk R got → Holding s regs aux got
hold kind lgk R s regs aux got h f = record {
  good = h.good;
  each = subst (λ (n : ℕ). Each n (registers s regs aux) got) (sym h.same_size) (λ i q. ap (λ (l : List ℕ). get_or l i 0) h.holds ∙ f i q);
}

holds_start : (kind lgk : ℕ) (regs aux : List ℕ) (p : Place) → Holds p → Holds (makes (start_of kind lgk regs aux) [] p)
unfolding start_of largest
holds_start kind lgk regs aux p h = go (eqb (shape_no kind lgk (length regs)) 0) refl
  where
    go : (b : Bool) → eqb (shape_no kind lgk (length regs)) 0 ≡ b → Holds (makes (start_of kind lgk regs aux) [] p)
    go true q =
        let m = start_has kind lgk regs aux (eqb-true (shape_no kind lgk (length regs)) 0 q) in
        rw m.0 (hold kind lgk _ _ _ _ [] (keeps_has m.1 refl) (λ i r. get_or-replicate (2 ^ lgk) i 0 0 r))
    go false q = rw (q, q) h

abbrev fed_to : Out → List ℕ → List ℕ → Place
fed_to o got cs = here o.sketch o.regs o.aux (got ++ take o.count cs)

holds_fed : (o : Out) (s : Sketch) (regs aux got cs : List ℕ) → FedTaken s regs aux cs o → Holding s regs aux got → Holds (fed_to o got cs)
holds_fed o s regs aux got cs t h =
    hold _ _ _ _ _ _ _ t (λ i r. fed_at (2 ^ s.lg_k) (registers s regs aux) (take o.count cs) i (rw (registers_long s regs aux h.good) r) ∙ rw (h.each i r, largest_append))

-- a call that feeds: all that it owes is that the sketch was fed what was taken
holds_feed : (call : Sketch → List ℕ → List ℕ → Out) (cs : List ℕ) → ((s : Sketch) (regs aux : List ℕ) → Good s regs aux → FedTaken s regs aux cs (call s regs aux)) → (p : Place) → Holds p → Holds (feeds call cs p)
unfolding feeds
holds_feed call cs t none h = h
holds_feed call cs t (here s regs aux got) h = holds_fed (call s regs aux) s regs aux got cs (t s regs aux h.good) h

abbrev pub merged_to : Out → List ℕ → List ℕ → List ℕ → Place
merged_to o taux got more = here o.sketch o.regs taux (pick (eqb o.no 0) (got ++ more) got)

pub holds_merged : (t : Sketch) (tregs taux got : List ℕ) (s : Sketch) (sregs saux more : List ℕ) → Holding t tregs taux got → Holding s sregs saux more
    → Holds (merged_to (merge_of t tregs s sregs saux) taux got more)
unfolding merge_of
holds_merged t tregs taux got s sregs saux more h j = go (eqb (merge_no t tregs s sregs saux) 0) refl
  where
    go : (b : Bool) → eqb (merge_no t tregs s sregs saux) 0 ≡ b → Holds (merged_to (merge_of t tregs s sregs saux) taux got more)
    go true q =
        let e = eqb-true (merge_no t tregs s sregs saux) 0 q in
        let m = merge_has t tregs taux s sregs saux h.good j.good e in
        rw m.0
        (hold 8 t.lg_k _ _ _ _ _ (keeps_has m.1 refl)
        (λ i r. joined_at t.lg_k s.lg_k (registers t tregs taux) (registers s sregs saux) got more i (rw (registers_long t tregs taux h.good) r)
        ((merge_says t tregs s sregs saux).0 e).1.1 (registers_long s sregs saux j.good) (h.each i r) j.each))
    go false q = rw (q, q) h

holds_merge : (p q : Place) → Holds p → Holds q → Holds (merges p q)
unfolding merges
holds_merge none q h j = h
holds_merge (here t tregs taux got) none h j = h
holds_merge (here t tregs taux got) (here s sregs saux more) h j = holds_merged t tregs taux got s sregs saux more h j

holds_send : (p q : Place) (buf regs aux scratch : List ℕ) → Holds p → Holds q → Holds (sends p q buf regs aux scratch)
unfolding sends
holds_send none q buf regs aux scratch h j = j
holds_send (here s sregs saux got) q buf regs aux scratch h j =
    picked _ _ q Holds (λ w. picked _ _ q Holds (λ o.
    let a = sent_again s sregs saux buf h.good w regs aux scratch o in
    record { good = sent_good s sregs saux buf h.good w regs aux scratch o; each = rw (a.same_registers, a.same_sketch) h.each }) (λ n. j)) (λ n. j)

holds_put : (w : World) (n : ℕ) (p : Place) → ((i : ℕ) → Holds (w i)) → Holds p → (i : ℕ) → Holds (put w n p i)
holds_put w n p h k i = go (eqb i n)
  where
    go : (b : Bool) → Holds (pick b p (w i))
    go true = k
    go false = h i

holds_step : (w : World) (c : Call) → ((i : ℕ) → Holds (w i)) → (i : ℕ) → Holds (step w c i)
unfolding step
holds_step w (start n kind lgk regs aux) h = holds_put w n _ h (holds_start kind lgk regs aux (w n) (h n))
holds_step w (feed n scratch cs) h = holds_put w n _ h (holds_feed _ cs (λ s regs aux. feed_keeps s regs aux scratch cs) (w n) (h n))
holds_step w (feed_image n scratch l) h = holds_put w n _ h (holds_feed _ (coupons_in l) (λ s regs aux. feed_image_keeps s regs aux scratch l) (w n) (h n))
holds_step w (merge n m) h = holds_put w n _ h (holds_merge (w n) (w m) (h n) (h m))
holds_step w (send n m buf regs aux scratch) h = holds_put w m _ h (holds_send (w n) (w m) buf regs aux scratch (h n) (h m))

holds_after : (w : World) (cs : List Call) → ((i : ℕ) → Holds (w i)) → (i : ℕ) → Holds (after w cs i)
unfolding after
holds_after w [] h = h
holds_after w (c ∷ cs) h = holds_after (step w c) cs (holds_step w c h)

pub holds_run : (calls : List Call) (n : ℕ) (s : Sketch) (regs aux got : List ℕ) → run calls n ≡ here s regs aux got → Holding s regs aux got
holds_run calls n s regs aux got e = subst Holds e (holds_after (λ i. none) calls (λ i. tt) n)

pub holds_stands : {kind lgk : ℕ} {got : List ℕ} {s : Sketch} {regs aux : List ℕ} → Stands kind lgk got s regs aux → Holding s regs aux got
holds_stands h = holds_run h.calls h.number _ _ _ _ h.stands

pub demand_2 : Demand2
demand_2 calls n s regs aux got e =
    let h = holds_run calls n s regs aux got e in
    (registers_long s regs aux h.good, λ i l. is_largest _ i got _ (h.each i l))
