-- `job::path_in` meets its contract: it finds what the reading's test asks, or where that fails. Assumes nothing.
use Rattle.std.proofs.Common.{◌≡◌, arith, sym, ap, ◌∙◌, None, Some, List, ℕ, length, drop, ◌<◌, length-drop, ⊎_elim, ◌++◌}
use Rattle.std.proofs.lemmas.Bool.Decides.{Decides-eqb}
use Rattle.std.proofs.lemmas.Option.{MatchOption-at_none, MatchOption-at_some}
use Rattle.std.proofs.lemmas.Slice.Eq.{strip_prefix_is}
use Rattle.std.proofs.lemmas.Grind.{common_steps}
use Rattle.job.specs.Job.{span}
use Rattle.job.proofs.Lines.{unless_stands, stands_path, stands_room, stands_inside}
use Rattle.job.proofs.Walk.{spanned}
use Rattle.job.proofs.path_in.Goals as goal
use Rattle.job.proofs.path_in.Goals.{In_ok-line, In_ok-n, then-n-eq0-via-then-n-eq0, then-n-eq0-via-else-n-eq0+then-n-gt200, then-n-eq0-via-else-n-eq0+else-n-gt200+then-line-n-ne10}

-- what follows the key
follows : (c : In_ok-line) → (drop c.args.at c.args.job.now ≡ c.args.key.now ++ c.in_ok-line.line.now) × (c.in_ok-line.line.now ≡ drop (length c.args.key.now) (drop c.args.at c.args.job.now))
follows c =
    let b : drop c.args.at c.args.job.now ≡ c.in_ok-get.field-0.now = grind (arith, common_steps) in
    rw b (strip_prefix_is Decides-eqb _ _ (Some c.in_ok-line.line) c.in_ok-line.ensures.cases, c.in_ok-line.ensures.cases.1)

-- where the byte is that ends it
ends : (c : In_ok-n) → (c.in_ok-n.n ≡ span c.in_ok-line.line.now) × (c.in_ok-n.n < length c.in_ok-line.line.now)
ends c = MatchOption-at_some _ _ _ (sym c.span.ensures ∙ c.in_ok-n.was) (spanned c.in_ok-line.line.now)

pub returns-in_err-get : goal.returns-in_err-get
returns-in_err-get c =
    let d = length-drop c.args.at c.args.job.now in
    rw c.from_residual.ensures (unless_stands _ _ (λ s. let r = stands_room s in ⊎_elim (λ h. omega arith) (λ h. omega arith) c.in_err-get.ensures.lookup.0))

pub returns-in_err-line : goal.returns-in_err-line
returns-in_err-line c =
    let b : drop c.args.at c.args.job.now ≡ c.in_ok-get.field-0.now = grind (arith, common_steps) in
    let n = strip_prefix_is Decides-eqb c.in_ok-get.field-0.now c.args.key.now None c.in_err-line.ensures.cases in
    rw c.from_residual-in_err-line.ensures (unless_stands _ _ (λ s. n _ (sym b ∙ s.keyed)))

pub returns-in_err-n : goal.returns-in_err-n
returns-in_err-n c =
    let f = follows (goal.at.returns-in_err-n c).In_ok-line in
    let e = MatchOption-at_none _ _ (sym c.span.ensures ∙ c.in_err-n.was) (spanned c.in_ok-line.line.now) in
    rw c.from_residual-in_err-n.ensures (unless_stands _ _ (λ s. let i = stands_inside s in let g = s.is in let h = ap span f.1 in let k = ap length f.1 in omega arith))

pub returns-then-n-eq0 : goal.returns-then-n-eq0
returns-then-n-eq0 c =
    let f = follows (goal.at.returns-then-n-eq0 c).In_ok-line in
    let e = ends (goal.at.returns-then-n-eq0 c).In_ok-n in
    unless_stands
    _
    _
    (
    λ s. let g = e.0 ∙ ap span f.1 ∙ sym s.is in elim c.then-n-eq0.branch [
      | then-n-eq0-via-then-n-eq0 w ↦ let p = s.some in omega arith
      | then-n-eq0-via-else-n-eq0+then-n-gt200 w ↦ let p = s.few in omega arith
      | then-n-eq0-via-else-n-eq0+else-n-gt200+then-line-n-ne10 w ↦ w.if-line-n-ne10.true (let h = f.1 in let k = s.ended in cc)
    ]
    )

pub returns : goal.returns
returns c =
    let f = follows (goal.at.returns c).In_ok-line in
    let e = ends (goal.at.returns c).In_ok-n in
    rw f.1 (stands_path (record { some = omega arith; is = e.0 ∙ ap span f.1; keyed = f.0 ∙ ap (λ (m : List ℕ). c.args.key.now ++ m) f.1; few = omega arith; ended = rw (← f.1) c.if-line-n-ne10.false }))
