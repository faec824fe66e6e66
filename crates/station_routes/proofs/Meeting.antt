-- The routes meet: two images of what the same coupons have reached are the same bytes, by demand 3. Assumes nothing.
use mathlib.Core.Path.{◌≡◌, refl, sym, ap, ◌∙◌}
use mathlib.Core.List.Memᴰ
use mathlib.Core.List.{List, ◌++◌, Memᴰ}
use mathlib.Core.Logic.{⊎_elim}
use Prim.Native.Nat.{ℕ, ◌^◌}
use lib.ListN.{replicate, length-replicate}
use Rattle.model.specs.Image.{image_in, Written}
use Rattle.model.specs.History.{Stands}
use Rattle.model.specs.Claims.{SameSet}
use Rattle.model.specs.declared.Sketch.{Sketch}
use Rattle.model.proofs.Claims.{demand_3}
use Rattle.station_routes.specs.Routes.{Reached}
use Rattle.station_routes.proofs.Journeys.{image_whole}

pub routes_meet : {a b x y : List ℕ} → Reached a b x → Reached a b y → x ≡ y
routes_meet {a} {b} p q =
    let g = p.stands in
    let h = q.stands in
    let same : SameSet p.got q.got = λ c. (λ m. (q.set c).1 ((p.set c).0 m), λ m. (p.set c).1 ((q.set c).0 m)) in
    let both = demand_3 g.calls h.calls g.number h.number _ _ _ _ _ _ _ _ g.stands h.stands g.same_kind h.same_kind (g.same_size ∙ sym h.same_size) same in
    let fresh = both (replicate (2 ^ p.sketch.lg_k) 0) (a ++ b) (length-replicate _ 0) (λ c. ((p.set c).1, (p.set c).0)) in
    let buf = replicate {A = ℕ} 56 0 in
    p.image_is ∙ sym (image_whole buf g refl)
    ∙ ap (λ (w : Written). w.out) (fresh.0.image_same buf ∙ sym (fresh.1.image_same buf))
    ∙ image_whole buf h refl ∙ sym q.image_is

-- ---- a route's end: in either order two batches are one set
turned : (a b : List ℕ) (c : ℕ) → Memᴰ c (b ++ a) → Memᴰ c (a ++ b)
turned a b c m = ⊎_elim (λ n. Memᴰ.append_right a n) (λ n. Memᴰ.append_left b n) (Memᴰ.append_cases b m)

module _ {a b image regs aux : List ℕ} {s : Sketch} where
  pub in_order : Stands 8 4 (a ++ b) s regs aux → image ≡ image_in s regs aux → Reached a b image
  in_order h e = record { got = a ++ b; sketch = s; regs = regs; aux = aux; stands = h; set = λ c. (λ m. m, λ m. m); image_is = e }

  pub in_turn : Stands 8 4 (b ++ a) s regs aux → image ≡ image_in s regs aux → Reached a b image
  in_turn h e = record { got = b ++ a; sketch = s; regs = regs; aux = aux; stands = h; set = λ c. (turned a b c, turned b a c); image_is = e }
