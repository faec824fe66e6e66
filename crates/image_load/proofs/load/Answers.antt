-- `image_load::load` meets its contract: checked first, and then as the book has it. Assumes nothing.
use mathlib.Core.Path.{◌≡◌, sym, ◌∙◌, ap}
use mathlib.Core.List.{map}
use Prim.Native.Nat.{◌^◌}
use native.Mathlib.Omega.{arith}
use lib.ListN.{length}
use Rattle.std.specs.Prelude.{Result}
use Rattle.model.specs.Table.{base_for, made}
use Rattle.model.specs.Sketch.{bytes_of, area_of}
use Rattle.model.specs.Answers.{Said}
use Rattle.model.specs.Calls.{out, made_out}
use Rattle.model.specs.Image.{entries_in, homed, open_no}
use Rattle.model.specs.declared.Sketch.{Sketch}
use Rattle.model.specs.declared.Refusal.{Refusal}
use Rattle.model.proofs.calls.Refusals.{refusal_some, handed_on}
use Rattle.model.proofs.image.Opening.{area_in, opens_to}
use Rattle.model.proofs.image.SaidIn.{open_refused}
use Rattle.image_header.specs.Header.{record_in}
use Rattle.image_check.proofs.Passing.{payload_here}
use Rattle.image_check.proofs.Payload.{regs_part}
use Rattle.image_load.specs.Loaded.{Accepted}
use Rattle.image_load.proofs.Laying.{is_in, sound, regs_size}
use Rattle.image_load.proofs.load.Goals as goal
use Rattle.image_load.proofs.load.Goals.{In_ok-check}

-- what is known where no rung refuses
passed : (c : In_ok-check) → let a = c.args in open_no a.image.bytes.now (length a.regs.now) (length a.aux.now) (length a.scratch.now) ≡ 0
passed c =
    ap (λ (f : Said). f.no) (sym c.in_ok-check.ensures)

accepted : (c : In_ok-check) → let a = c.args in Accepted a.image (length a.aux.now) (length a.scratch.now)
accepted c =
    record { regs = length c.args.regs.now; passed = (passed c) }

size : (c : In_ok-check) → let a = c.args in length a.regs.now ≡ bytes_of a.image.header.kind a.image.header.lg_k
unfolding accepted
size c =
    regs_size _ _ _ (accepted c)

pub returns-in_err-check : goal.returns-in_err-check
returns-in_err-check c =
    let a = c.args in
    ap (λ (r : Result Sketch Refusal). made_out r a.regs.now a.aux.now) (handed_on _ c.from_residual.ensures.1)
    ∙ open_refused a.image.bytes.now a.regs.now a.aux.now a.scratch.now c.in_err-check.ensures (refusal_some _)

pub slice_bounds-copy-end : goal.slice_bounds-copy-end
slice_bounds-copy-end c =
    let passed = (goal.at.slice_bounds-copy-end c).In_ok-check in
    omega (arith, size passed, payload_here (sound _ _ _ (accepted passed)))

pub lay-requires : goal.lay-requires
lay-requires c = accepted (goal.at.lay-requires c).In_ok-check

pub returns : goal.returns
unfolding area_in
returns c =
    let past = goal.at.returns c in
    let a = c.args in
    let l = a.image.bytes.now in
    let is = is_in _ _ _ (accepted past.In_ok-check) in
    (λ i. out 0 0 ((c.from.ensures ∙ is) i) 0 ((c.copy.ensures ∙ regs_part l (record_in a.image.header) is _ (size past.In_ok-check)) i)
    ((c.lay.ensures ∙ ap (λ (r : Sketch). area_of r.kind (made (base_for r.lg_k) (map (homed (2 ^ r.lg_k)) (entries_in l))) a.aux.now) is) i))
    ∙ sym (opens_to l a.regs.now a.aux.now a.scratch.now (passed past.In_ok-check))
