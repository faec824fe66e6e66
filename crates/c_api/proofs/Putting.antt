-- Words kept for the bytes of a record, and its two counts: the record put over the words, and standing for it.
use mathlib.Core.List.{List, [], ◌∷◌}
use Prim.Native.Nat.{ℕ}
use lib.ListN.{get_or}
use Rattle.model.specs.declared.Sketch.{Sketch}
use Rattle.c_api.specs.Words.{record_in, record_out, Carried, Put}

pub putting : {l : List ℕ} {s : Sketch} {a b c : ℕ} → Carried (get_or l 0 0) s.kind a → Carried (get_or l 1 0) s.lg_k b → Carried (get_or l 2 0) s.cur_min c →
    Put l s (a ∷ b ∷ c ∷ s.num_at_cur_min ∷ s.aux_count ∷ [])
unfolding record_in record_out
putting p q r = record { words_are = rw (p.word_is, q.word_is, r.word_is); stand = rw (p.stands, q.stands, r.stands) }
