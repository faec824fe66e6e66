-- The least number that passes: of the same test, of a range in two parts; so for the slots of a window. Assumes nothing.
use Rattle.std.specs.Prelude.{Option, None, Some}
use Rattle.std.specs.Option.{option_or}
use mathlib.Core.Path.{refl, ◌≡◌, sym, ◌∙◌, ap, subst}
use mathlib.Core.Bool.{Bool, false}
use mathlib.Core.List.{List}
use Prim.Native.Nat.{ℕ, ◌+◌, ◌*◌, ◌≤◌, ◌<◌, min, zero-le}
use native.Mathlib.Decide.{dec_lt}
use native.Mathlib.Omega.{arith}
use lib.Dec.{eqb}
use Rattle.model.specs.Pick.{differ}
use Rattle.model.proofs.table.FirstLaws.{true_not_false}
use Rattle.image_header.specs.declared.Header.{Header}
use Rattle.image_faults.specs.declared.Walk.{Walk}
use Rattle.image_faults.specs.Windows.{slots, unlike_at, unmatched_by, Least, LeastIn, Passed, Viewed}

pub least_same : {p q : ℕ → Bool} {a e s : ℕ} → ((t : ℕ) → a ≤ t → t < e → q t ≡ p t) → Least p a e s → Least q a e s
least_same {s = s} same l =
    record { low = l.low; upto = l.upto; before = λ t d m. same t m (omega (arith, l.upto)) ∙ l.before t d m; here = λ d. same s l.low d ∙ l.here d }

-- below a, or else from a on
pub least_on : {p : ℕ → Bool} {a e s t r : ℕ} → a ≤ e → Least p 0 a s → Least p a e t → (s < a → r ≡ s) × (a ≤ s → r ≡ t) → Least p 0 e r
least_on {p} {a} {e} {s} {t} {r} inside x y is = go (dec_lt s a)
  where
    before : a ≤ s → (u : ℕ) → u < t → Dec (u < a) → p u ≡ false
    before h u l (yes d) = x.before u (omega arith) zero-le
    before h u l (no d) = y.before u l (omega arith)

    go : Dec (s < a) → Least p 0 e r
    go (yes d) = let q = is.0 d in record { low = zero-le; upto = omega arith; before = λ u l m. x.before u (omega arith) m; here = λ l. ap p q ∙ x.here d }
    go (no d) =
        let h : a ≤ s = omega arith in
        let q = is.1 h in
        record { low = zero-le; upto = omega (arith, y.upto); before = λ u l m. before h u (omega arith) (dec_lt u a); here = λ l. ap p q ∙ y.here (omega arith) }

pub within_same : {p q : ℕ → Bool} {a e : ℕ} {o : Option ℕ} → ((t : ℕ) → a ≤ t → t < e → q t ≡ p t) → LeastIn p a e o → LeastIn q a e o
within_same same l = record { least = least_same same l.least; inside = l.inside }

pub within_on : {p : ℕ → Bool} {a e : ℕ} → a ≤ e → (s t : Option ℕ) → LeastIn p 0 a s → LeastIn p a e t → LeastIn p 0 e (option_or s t)
within_on {a = a} inside (Some s) t x y = record { least = least_on inside x.least y.least ((λ l. refl), λ l. absurd (omega (arith, x.inside))); inside = omega (arith, x.inside) }
within_on {a = a} inside None t x y = record { least = least_on inside x.least y.least ((λ l. absurd (omega arith)), λ l. refl); inside = y.inside }

module _ {look : Bool} {h : Header} {b : ℕ} {f g : ℕ → ℕ} {limit : ℕ} {r : Walk} {exit : List ℕ} (p : Passed h b f g limit r exit) where
  pub view_blind : look ≡ false → Viewed look h b f g limit (record { walk = r; slot = None })
  view_blind e = record { walked = p.walked; least = λ y. absurd (true_not_false y e) }

  pub view_looks : (e : ℕ) → e ≡ min ((b + 1) * 524288) (slots h) → {o : Option ℕ} → LeastIn (unlike_at g exit) (b * 524288) e o → Viewed look h b f g limit (record { walk = r; slot = o })
  view_looks e is {o} l = record {
    walked = p.walked;
    least = λ y z. subst (λ (n : ℕ). LeastIn (unmatched_by h f g limit) (b * 524288) n o) is (within_same (λ t m d. ap (differ (eqb (g t) 15)) (sym (p.marked z t (omega arith)))) l);
  }
