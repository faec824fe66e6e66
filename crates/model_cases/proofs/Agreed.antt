-- The book agrees on the cases, by computing. Assumes nothing.
use mathlib.Core.Path.{◌≡◌, refl}
use mathlib.Core.Bool.{true}
use Rattle.model.specs.Specimens.{begun, fed_with, image_from}
use Rattle.model.proofs.Computing.{book}
use Rattle.model_cases.specs.Play.{same, merged_all, opened_out, fed_on, agrees, agrees_all}
use Rattle.model_cases.specs.Cases.{cases0, cases1, cases2, cases3, cases4}
use Rattle.model_cases.specs.Agreed.{Agreed}

holds0 : agrees_all cases0 ≡ true
unfolding book begun fed_with image_from same merged_all opened_out agrees agrees_all cases0
holds0 = refl

holds1 : agrees_all cases1 ≡ true
unfolding book begun fed_with image_from same merged_all opened_out agrees agrees_all cases1
holds1 = refl

holds2 : agrees_all cases2 ≡ true
unfolding book begun fed_with image_from same merged_all opened_out agrees agrees_all cases2
holds2 = refl

holds3 : agrees_all cases3 ≡ true
unfolding book begun fed_with image_from same fed_on agrees agrees_all cases3
holds3 = refl

holds4 : agrees_all cases4 ≡ true
unfolding book opened_out agrees agrees_all cases4
holds4 = refl

pub agreed : Agreed
agreed = (holds0, (holds1, (holds2, (holds3, holds4))))
