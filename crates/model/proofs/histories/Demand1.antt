-- Demand 1: each refusal exactly when its line of the table says. A line is a test that tells its question; the lines follow one another as
-- the tests do. Assumes nothing.
use mathlib.Core.Path.{◌≡◌, refl, sym, ap, ◌∙◌, subst, subst₂}
use mathlib.Core.Bool.{Bool, true, false}
use mathlib.Core.List.{List, [], ◌∷◌}
use Prim.Native.Nat.{ℕ, ◌^◌, ◌≤◌}
use lib.Dec.{eqb, leb}
use lib.ListN.{length}
use borrow.Author.Tests.{ne_eqb}
use Rattle.model.specs.Pick.{pick, both, first_of, Tells}
use Rattle.model.specs.Packed.{Bytes}
use Rattle.model.specs.Sketch.{is_kind, bytes_of, Shaped, Good}
use Rattle.model.specs.Check.{good_of, lgk_no, size_no, shape_no, scratch_fits, check_no}
use Rattle.model.specs.Calls.{Out, start_of, kept_out, batch_of, feed_of, unpack_of, eight_no, view_of, merge_no, merge_of, sums_of}
use Rattle.model.specs.Image.{image_in, Written, write_no, write_of}
use Rattle.model.specs.Claims.{Unless, Ok, ShapeLines, SketchLines, Scratch, FeedLine}
use Rattle.model.specs.declared.Sketch.{Sketch}
use Rattle.model.proofs.table.FirstLaws.{true_not_false}
use Rattle.model.proofs.packing.Lengths.{kind_tells}
use Rattle.model.proofs.order.Tells.{tells_both, tells_le, tells_eq, tells_true}
use Rattle.model.proofs.order.Tests.{scratch_tells}
use Rattle.model.proofs.calls.Ladder.{first_append, first_one, unless}
use Rattle.model.proofs.order.Lawful.{lawful}
use Rattle.model.proofs.calls.Has.{check_ok, ok_check, feed_is, batch_line, eight_says}

tells_yes : Tells true (Unit {0})
tells_yes = ((λ e. tt), λ e p. true_not_false refl e)

pub zero_is : first_of [] ≡ 0
unfolding first_of
zero_is = refl

-- a call's number is the first of its refusals and of what it answers when done
pub call_no : {A : Type 0} (number : A → ℕ) (n : ℕ) (done back : A) → number back ≡ n → number (pick (eqb n 0) done back) ≡ first_of (n ∷ number done ∷ [])
unfolding first_of
call_no number n done back e = go (eqb n 0)
  where
    go : (b : Bool) → number (pick b done back) ≡ pick b (first_of (number done ∷ [])) n
    go true = sym (first_one (number done))
    go false = e

-- ---- the lines that calls share
shape_lines : (kind lgk len : ℕ) {next : ℕ → Type 0} (ns : List ℕ) → (Shaped kind lgk len → next (first_of ns)) → ShapeLines kind lgk len next (first_of (shape_no kind lgk len ∷ ns))
unfolding shape_no lgk_no size_no
shape_lines kind lgk len ns f =
    rw (first_append (pick (is_kind kind) 0 1 ∷ pick (both (leb 4 lgk) (leb lgk 21)) 0 2 ∷ pick (eqb len (bytes_of kind lgk)) 0 3 ∷ []) ns)
    (unless _ 0 _ (kind_tells kind) (λ p.
    unless _ 1 _ (tells_both _ _ (tells_le 4 lgk) (tells_le lgk 21)) (λ q.
    unless _ 2 ns (tells_eq len (bytes_of kind lgk)) (λ r.
    f (record { kind_known = tells_true _ (kind_tells kind) p; low = q.0; high = q.1; long = r })))))

pub sketch_lines : {lent : Type 0} (b : Bool) → Tells b lent → (s : Sketch) (regs aux : List ℕ) → Bytes regs → {next : ℕ → Type 0} (ns : List ℕ) → (lent → Good s regs aux → next (first_of ns))
    → SketchLines lent s regs aux next (first_of (check_no b s regs aux ∷ ns))
unfolding check_no
sketch_lines b t s regs aux by ns f =
    rw (first_append (shape_no s.kind s.lg_k (length regs) ∷ pick b 0 3 ∷ pick (good_of s regs aux) 0 4 ∷ []) ns)
    (shape_lines s.kind s.lg_k (length regs) _ (λ h.
    unless b 2 _ t (λ l.
    unless (good_of s regs aux) 3 ns ((lawful s.kind h.kind_known).tells s regs aux refl h by) (f l))))

-- ---- each call
pub start_lines : (kind lgk : ℕ) (regs aux : List ℕ) → ShapeLines kind lgk (length regs) Ok (start_of kind lgk regs aux).no
unfolding start_of kept_out
start_lines kind lgk regs aux =
    subst (ShapeLines kind lgk (length regs) Ok) (sym (call_no (λ (o : Out). o.no) (shape_no kind lgk (length regs)) _ _ refl)) (shape_lines kind lgk (length regs) (0 ∷ []) (λ h. first_one 0))

pub feed_lines : (s : Sketch) (regs aux scratch cs : List ℕ) → Bytes regs
    → SketchLines (Scratch s.kind aux scratch) s regs aux (FeedLine s regs aux cs (feed_of s regs aux scratch cs).count) (feed_of s regs aux scratch cs).no
unfolding feed_of
feed_lines s regs aux scratch cs by =
    let o = batch_of s regs aux cs in
    let t = scratch_tells s.kind aux scratch in
    let n = check_no (scratch_fits s.kind (length aux) (length scratch)) s regs aux in
    subst (SketchLines (Scratch s.kind aux scratch) s regs aux (FeedLine s regs aux cs (feed_of s regs aux scratch cs).count)) (sym (call_no (λ (o : Out). o.no) n _ _ refl))
    (sketch_lines _ t s regs aux by (o.no ∷ []) (λ l g.
    let e = feed_is s regs aux scratch cs (ok_check _ s regs aux (tells_true _ t l) g) in
    subst₂ (FeedLine s regs aux cs) (sym (ap (λ (p : Out). p.count) e)) (sym (first_one o.no)) (batch_line s regs aux cs g)))

pub unpack_lines : (s : Sketch) (regs aux buf : List ℕ) → Bytes regs → SketchLines (length buf ≡ 2 ^ s.lg_k) s regs aux Ok (unpack_of s regs aux buf).no
unfolding unpack_of
unpack_lines s regs aux buf by = subst (SketchLines _ s regs aux Ok) (first_one _) (sketch_lines _ (tells_eq (length buf) (2 ^ s.lg_k)) s regs aux by [] (λ l g. zero_is))

pub merge_lines : (t : Sketch) (tregs : List ℕ) (s : Sketch) (sregs saux : List ℕ) → Bytes tregs → Bytes sregs
    → Unless 1 (t.kind ≡ 8) (SketchLines (Unit {0}) t tregs [] (SketchLines (Unit {0}) s sregs saux (Unless 5 (t.lg_k ≤ s.lg_k) Ok))) (merge_of t tregs s sregs saux).no
unfolding merge_of merge_no eight_no kept_out
merge_lines t tregs s sregs saux bt bs =
    let finer : ℕ = pick (leb t.lg_k s.lg_k) 0 5 in
    subst (Unless 1 (t.kind ≡ 8) _)
    (sym (call_no (λ (o : Out). o.no) (merge_no t tregs s sregs saux) _ _ refl ∙ first_append (eight_no t tregs ∷ check_no true s sregs saux ∷ finer ∷ []) (0 ∷ [])
    ∙ first_append (pick (eqb t.kind 8) 0 1 ∷ check_no true t tregs [] ∷ []) (check_no true s sregs saux ∷ finer ∷ 0 ∷ [])))
    (unless _ 0 _ (tells_eq t.kind 8) (λ e.
    sketch_lines true tells_yes t tregs [] bt _ (λ l g.
    sketch_lines true tells_yes s sregs saux bs _ (λ m h.
    unless _ 4 (0 ∷ []) (tells_le t.lg_k s.lg_k) (λ q. first_one 0)))))

pub sums_lines : (s : Sketch) (regs aux : List ℕ) → Bytes regs → SketchLines (Unit {0}) s regs aux Ok (sums_of s regs aux).no
unfolding sums_of
sums_lines s regs aux by = subst (SketchLines _ s regs aux Ok) (first_one _) (sketch_lines true tells_yes s regs aux by [] (λ l g. zero_is))

pub write_lines : (s : Sketch) (regs aux buf : List ℕ) → Bytes regs
    → SketchLines (Unit {0}) s regs aux (Unless 16 (length (image_in s regs aux) ≤ length buf) Ok) (write_of s regs aux buf).no
unfolding write_of write_no
write_lines s regs aux buf by =
    subst (SketchLines _ s regs aux _)
    (sym (call_no (λ (o : Written). o.no) (write_no s regs aux buf) _ _ refl ∙ first_append (check_no true s regs aux ∷ pick (leb (length (image_in s regs aux)) (length buf)) 0 16 ∷ []) (0 ∷ [])))
    (sketch_lines true tells_yes s regs aux by _ (λ l g. unless _ 15 (0 ∷ []) (tells_le (length (image_in s regs aux)) (length buf)) (λ q. first_one 0)))

pub view_shows : (s : Sketch) (regs : List ℕ) → s.kind ≡ 8 → Good s regs [] → view_of s regs ≡ regs
unfolding view_of
view_shows s regs e g = rw ((eight_says s regs).1 (e, ok_check true s regs [] refl g))

pub view_hides : (s : Sketch) (regs : List ℕ) → Bytes regs → ((s.kind ≡ 8) × Good s regs [] → ⊥) → view_of s regs ≡ []
unfolding view_of
view_hides s regs by h = rw (ne_eqb (eight_no s regs) 0 (λ e. let p = (eight_says s regs).0 e in h (p.0, check_ok true s regs [] by p.1)))
