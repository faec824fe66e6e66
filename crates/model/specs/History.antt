-- Histories of starting, feeding, merging and sending sketches, each with its memory to itself, and the coupons that have reached each.
-- A call here is what its contract says: refused calls and stopped batches are part of a history too.
use Rattle.std.specs.Prelude.{◌≡◌, List, [], ◌∷◌, ◌++◌, ℕ, eqb, take}
use Rattle.model.specs.Pick.{pick}
use Rattle.model.specs.Calls.{Out, start_of, feed_of, merge_of}
use Rattle.model.specs.Image.{write_of, open_of}
use Rattle.model.specs.Lists.{coupons_in, feed_image_of}
use Rattle.model.specs.declared.Sketch.{Sketch}

-- a numbered place: no sketch yet; or a record, its two lent memories, and the coupons that have reached it
pub data Place : Type 0 where
  none : Place
  here : Sketch → List ℕ → List ℕ → List ℕ → Place

-- what stands at each number
abbrev pub World : Type 0
World = ℕ → Place

-- a call on the sketches by their numbers: start is handed memory with any contents, feed scratch and a batch, feed_image scratch and an image;
-- merge a target and a source; send a source, a target, the buffer that the source is written into, and the target's memory and scratch
pub data Call : Type 0 where
  start : ℕ → ℕ → ℕ → List ℕ → List ℕ → Call
  feed : ℕ → List ℕ → List ℕ → Call
  feed_image : ℕ → List ℕ → List ℕ → Call
  merge : ℕ → ℕ → Call
  send : ℕ → ℕ → List ℕ → List ℕ → List ℕ → List ℕ → Call

-- p at number n
abbrev pub put : World → ℕ → Place → World
put w n p i = pick (eqb i n) p (w i)

-- a call that makes a sketch, which these coupons have reached; a refused one makes none and changes no memory
abbrev pub makes : Out → List ℕ → Place → Place
makes o got p = pick (eqb o.no 0) (here o.sketch o.regs o.aux got) p

-- a call that feeds a sketch these coupons: the first `count` of them have reached it
unfoldable pub feeds : (Sketch → List ℕ → List ℕ → Out) → List ℕ → Place → Place
feeds call cs none = none
feeds call cs (here s regs aux got) =
    let o = call s regs aux in
    here o.sketch o.regs o.aux (got ++ take o.count cs)

-- all that has reached the source reaches the target, unless the merge is refused
unfoldable pub merges : Place → Place → Place
merges none q = none
merges (here t tregs taux got) none = here t tregs taux got
merges (here t tregs taux got) (here s sregs saux more) =
    let o = merge_of t tregs s sregs saux in
    here o.sketch o.regs taux (pick (eqb o.no 0) (got ++ more) got)

-- the source is written, and its image opened in other memory: all that has reached the source has reached what then stands there, unless either is refused
unfoldable pub sends : Place → Place → List ℕ → List ℕ → List ℕ → List ℕ → Place
sends none q buf regs aux scratch = q
sends (here s sregs saux got) q buf regs aux scratch =
    let w = write_of s sregs saux buf in
    pick (eqb w.no 0) (makes (open_of w.out regs aux scratch) got q) q

-- one call
unfoldable pub step : World → Call → World
step w (start n kind lgk regs aux) = put w n (makes (start_of kind lgk regs aux) [] (w n))
step w (feed n scratch cs) = put w n (feeds (λ s regs aux. feed_of s regs aux scratch cs) cs (w n))
step w (feed_image n scratch l) = put w n (feeds (λ s regs aux. feed_image_of s regs aux scratch l) (coupons_in l) (w n))
step w (merge n m) = put w n (merges (w n) (w m))
step w (send n m buf regs aux scratch) = put w m (sends (w n) (w m) buf regs aux scratch)

-- calls one after the other
unfoldable pub after : World → List Call → World
after w [] = w
after w (c ∷ cs) = after (step w c) cs

-- a history, from no sketch at all
abbrev pub run : List Call → World
run calls = after (λ n. none) calls

-- a sketch of this kind and size stands in some history, and these coupons have reached it
pub record Stands (kind lgk : ℕ) (got : List ℕ) (s : Sketch) (regs aux : List ℕ) : Type 0 where
  pub calls : List Call
  pub number : ℕ
  pub stands : run calls number ≡ here s regs aux got
  pub same_kind : s.kind ≡ kind
  pub same_size : s.lg_k ≡ lgk
