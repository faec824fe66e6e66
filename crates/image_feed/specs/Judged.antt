-- What comes before a word is fed, and what a block that stopped gives.
use Rattle.std.specs.Prelude.{◌≡◌, List, ℕ, ◌+◌, Result, Ok, Err}
use Rattle.model.specs.Answers.{refusal_no, refusal_place}
use Rattle.model.specs.Lists.{feed_image_no, empty_place}
use Rattle.model.specs.declared.Sketch.{Sketch}
use Rattle.model.specs.declared.Refusal.{Refusal}
use Rattle.model.specs.declared.Stopped.{Stopped}
use Rattle.image_list.specs.Read.{coupons_at}
use Rattle.image_list.specs.declared.Coupons.{Coupons}

-- a block's stop, with the words before it counted
abbrev pub later : ℕ → Stopped → Stopped
later i s = record { why = s.why; fed = record { sketch = s.fed.sketch; taken = i + s.fed.taken } }

-- the call's refusal and its place, or where the words are
abbrev pub Judged : Sketch → List ℕ → List ℕ → List ℕ → List ℕ → Result Coupons Refusal → Type 0
Judged s regs aux scratch l (Ok c) = (feed_image_no s regs aux scratch l ≡ 0) × (c ≡ coupons_at l)
Judged s regs aux scratch l (Err e) = (refusal_no e ≡ feed_image_no s regs aux scratch l) × (refusal_place e ≡ empty_place l (refusal_no e))
