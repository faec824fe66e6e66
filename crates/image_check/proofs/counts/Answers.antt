-- `image_check::counts` meets its contract: one rung of the ladder after the other. Assumes nothing.
use mathlib.Core.Path.{◌≡◌, sym, ◌∙◌, ap, ap₂, subst}
use mathlib.Core.Bool.{true}
use Prim.Native.Nat.{ℕ, ◌+◌, ◌*◌, ◌^◌, ◌≤◌, ◌<◌}
use native.Mathlib.Omega.{arith}
use lib.ListN.{length}
use Rattle.model.specs.Sketch.{bytes_of}
use Rattle.model.specs.Check.{counts_fit}
use Rattle.model.specs.Image.{sketch_in, word_count, lg_arr_fits}
use Rattle.model.proofs.calls.Rungs.{counts_off, counts_lg_arr, counts_short, counts_right}
use Rattle.model.proofs.packing.Lengths.{bytes_few}
use Rattle.image_header.proofs.Headers.{lg_arr_is}
use Rattle.image_check.proofs.Passing.{formed, is_in, end_is, words_small}
use Rattle.image_check.proofs.counts.Goals as goal
use Rattle.image_check.proofs.counts.Goals.{After-counts_fit, After-lg_arr_fits, After-word_count-many, Else-not-counts_fit, Else-not-lg_arr_fits}

-- the tests, of what the book reads
fit_is : (c : After-counts_fit) → c.counts_fit.result ≡ counts_fit (sketch_in c.args.image.bytes.now)
fit_is c =
    c.counts_fit.ensures ∙ ap counts_fit (c.from.ensures ∙ is_in c.requires)

form_is : (c : After-lg_arr_fits) → c.lg_arr_fits.result ≡ lg_arr_fits c.args.image.bytes.now
form_is c =
    c.lg_arr_fits.ensures ∙ lg_arr_is _ _ c.args.image.headed

counts : (c : Else-not-counts_fit) → counts_fit (sketch_in c.args.image.bytes.now) ≡ true
counts c =
    let fit_is : c.counts_fit.result ≡ counts_fit (sketch_in c.args.image.bytes.now) =
    c.counts_fit.ensures ∙ ap counts_fit (c.from.ensures ∙ is_in c.requires) in
    sym fit_is ∙ c.if-not-counts_fit.false

form : (c : Else-not-lg_arr_fits) → lg_arr_fits c.args.image.bytes.now ≡ true
form c =
    let form_is : c.lg_arr_fits.result ≡ lg_arr_fits c.args.image.bytes.now =
    c.lg_arr_fits.ensures ∙ lg_arr_is _ _ c.args.image.headed in
    sym form_is ∙ c.if-not-lg_arr_fits.false

-- where the payload ends
end : (c : After-word_count-many) → let l = c.args.image.bytes.now in
    40 + c.bytes_of-bytes.result + 4 * c.word_count-many.result ≡ 40 + bytes_of (sketch_in l).kind (sketch_in l).lg_k + 4 * word_count l
end c =
    ap₂ (λ (m n : ℕ). 40 + m + 4 * n) c.bytes_of-bytes.ensures c.word_count-many.ensures ∙ end_is c.requires

pub counts_fit-requires : goal.counts_fit-requires
counts_fit-requires c = rw c.from.ensures (formed c.requires).1.1

pub returns-then-not-counts_fit : goal.returns-then-not-counts_fit
returns-then-not-counts_fit c =
    counts_off _ (sym (fit_is (goal.at.returns-then-not-counts_fit c).After-counts_fit) ∙ c.if-not-counts_fit.true)

pub returns-then-not-lg_arr_fits : goal.returns-then-not-lg_arr_fits
returns-then-not-lg_arr_fits c =
    let past = goal.at.returns-then-not-lg_arr_fits c in
    counts_lg_arr _ (counts past.Else-not-counts_fit) (sym (form_is past.After-lg_arr_fits) ∙ c.if-not-lg_arr_fits.true)

pub bytes_of-bytes-requires : goal.bytes_of-bytes-requires
bytes_of-bytes-requires c = (formed c.requires).1.1

pub word_count-many-requires : goal.word_count-many-requires
word_count-many-requires c = sym c.lg_arr_fits.ensures ∙ c.if-not-lg_arr_fits.false

pub overflow_add-bytes : goal.overflow_add-bytes
overflow_add-bytes c =
    let bytes : c.bytes_of-bytes.result ≤ 2 ^ 21 = rw c.bytes_of-bytes.ensures (bytes_few _ _ (formed c.requires).1.1) in
    let words : c.word_count-many.result < 2 ^ 32 = rw c.word_count-many.ensures (words_small c.requires (counts (goal.at.overflow_add-bytes c).Else-not-counts_fit) (sym c.lg_arr_fits.ensures ∙ c.if-not-lg_arr_fits.false)) in
    omega arith

pub overflow_mul-many : goal.overflow_mul-many
overflow_mul-many c =
    let bytes : c.bytes_of-bytes.result ≤ 2 ^ 21 = rw c.bytes_of-bytes.ensures (bytes_few _ _ (formed c.requires).1.1) in
    let words : c.word_count-many.result < 2 ^ 32 = rw c.word_count-many.ensures (words_small c.requires (counts (goal.at.overflow_mul-many c).Else-not-counts_fit) (sym c.lg_arr_fits.ensures ∙ c.if-not-lg_arr_fits.false)) in
    omega arith

pub overflow_add-bytes-2 : goal.overflow_add-bytes-2
overflow_add-bytes-2 c =
    let bytes : c.bytes_of-bytes.result ≤ 2 ^ 21 = rw c.bytes_of-bytes.ensures (bytes_few _ _ (formed c.requires).1.1) in
    let words : c.word_count-many.result < 2 ^ 32 = rw c.word_count-many.ensures (words_small c.requires (counts (goal.at.overflow_add-bytes-2 c).Else-not-counts_fit) (sym c.lg_arr_fits.ensures ∙ c.if-not-lg_arr_fits.false)) in
    omega arith

pub returns-then-image-bytes : goal.returns-then-image-bytes
returns-then-image-bytes c =
    let past = goal.at.returns-then-image-bytes c in
    counts_short _ (counts past.Else-not-counts_fit) (form past.Else-not-lg_arr_fits) (subst (λ (n : ℕ). length c.args.image.bytes.now < n) (end past.After-word_count-many) c.if-image-bytes.true)

pub returns : goal.returns
returns c =
    let past = goal.at.returns c in
    counts_right _ (counts past.Else-not-counts_fit) (form past.Else-not-lg_arr_fits) (subst (λ (n : ℕ). n ≤ length c.args.image.bytes.now) (end past.After-word_count-many) c.if-image-bytes.false)
