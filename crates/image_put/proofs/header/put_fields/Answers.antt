-- `image_put::header::put_fields` meets its contract: three puts, one behind the other. Assumes nothing.
use mathlib.Core.Path.{refl, ap₂, ◌∙◌}
use mathlib.Core.List.{List, [], ◌∷◌, ◌++◌}
use Prim.Native.Nat.{ℕ}
use native.Mathlib.Omega.{arith}
use lib.ListN.{replicate}
use Rattle.model.specs.Image.{magic, flags_of, mode_of}
use Rattle.image_put.specs.Parts.{field_bytes}
use Rattle.image_put.proofs.Over.{next, over_pasted}
use Rattle.image_put.proofs.header.put_fields.Goals as goal

pub returns : goal.returns
unfolding field_bytes
returns c =
    let s = c.args.s in
    let d = c.args.out.now in
    let five : List ℕ = s.lg_k ∷ 0 ∷ flags_of s.kind ∷ s.cur_min ∷ mode_of s.kind ∷ [] in
    let room = c.requires in
    next d 0 8 (magic ++ five) (replicate 8 0) refl refl
    (next d 0 3 magic five refl (ap₂ (λ (x y : ℕ). s.lg_k ∷ 0 ∷ x ∷ s.cur_min ∷ y ∷ []) c.flags_of.ensures c.mode_of.ensures)
    (c.put.ensures ∙ over_pasted _ _ _) (c.put-2.ensures ∙ over_pasted _ _ _) refl (omega arith))
    (c.put-3.ensures ∙ over_pasted _ _ _) refl (omega arith)
