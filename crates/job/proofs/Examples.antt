-- Small texts, and what they are read as, by computation. Assumes nothing.
use mathlib.Core.Path.{◌≡◌, refl}
use mathlib.Core.List.{List, [], ◌∷◌, map}
use Prim.Native.Nat.{ℕ}
use Rattle.model.specs.Pick.{first}
use Rattle.text.specs.Text.{text, spelt, line, stands_at}
use Rattle.job.specs.Job.{Job, job, no_job, in_lines, span, path_in, size_in, ins_in, job_of}

-- two jobs; then a leading zero, no image, no line feed at the end, a line too many, a space in a path
pub texts : List (List ℕ)
texts =
    text "lgk=4\nin=a\nin=b=c\nout=d\n"
    ∷ text "lgk=12\nin=a\nout=a\n"
    ∷ text "lgk=04\nin=a\nout=d\n"
    ∷ text "lgk=4\nout=d\n"
    ∷ text "lgk=4\nin=a\nout=d"
    ∷ text "lgk=4\nin=a\nout=d\n\n"
    ∷ text "lgk=4\nin=a b\nout=d\n"
    ∷ []

pub said : List Job
said = job 4 (text "a" ∷ text "b=c" ∷ []) (text "d") ∷ job 12 (text "a" ∷ []) (text "a") ∷ no_job ∷ no_job ∷ no_job ∷ no_job ∷ no_job ∷ []

pub examples : map job_of texts ≡ said
unfolding texts said job_of size_in first stands_at line spelt ins_in in_lines path_in span
examples = refl
