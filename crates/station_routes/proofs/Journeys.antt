-- What stands in a history can be written, and opened elsewhere: the journey, and the image itself. Assumes nothing.
use mathlib.Core.Path.{◌≡◌, refl, sym, ap, ap₂, ◌∙◌}
use mathlib.Core.List.{List, [], ◌∷◌, ◌++◌, append-nil}
use Prim.Native.Nat.{ℕ, ◌+◌, ◌*◌, ◌^◌, ◌≤◌}
use native.Mathlib.Omega.{arith}
use lib.ListN.{length, drop}
use lib.Seq.{drop-length}
use Rattle.model.specs.Table.{base_for}
use Rattle.model.specs.Sketch.{bytes_of}
use Rattle.model.specs.Calls.{Out}
use Rattle.model.specs.Image.{image_in, Written, wrote, write_of, open_of}
use Rattle.model.specs.History.{Place, send, sends, step, Stands}
use Rattle.model.specs.Claims.{Scratch, Again}
use Rattle.model.specs.declared.Sketch.{Sketch}
use Rattle.model.proofs.packing.Lengths.{if_eight}
use Rattle.model.proofs.table.Shape.{size_shorter}
use Rattle.model.proofs.image.Writing.{image_long}
use Rattle.model.proofs.image.Room.{few_exceptions, no_words, few_words, image_written}
use Rattle.model.proofs.calls.Standing.{twice_room}
use Rattle.model.proofs.Claims.{reopens}
use Rattle.station_routes.specs.Routes.{Roomy}
use Rattle.station_routes.proofs.Histories.{Gives, stands_good, one_more}

-- ---- send: what is opened stands where the source stood
module _ {kind lgk : ℕ} {got : List ℕ} {s : Sketch} {regs aux : List ℕ} (buf : List ℕ)
    (h : Stands kind lgk got s regs aux) (long : 40 + bytes_of kind lgk + 4 * 2 ^ lgk ≤ length buf) where
  bytes : bytes_of s.kind s.lg_k ≡ bytes_of kind lgk
  bytes = ap₂ bytes_of h.same_kind h.same_size

  registers_many : 2 ^ s.lg_k ≡ 2 ^ lgk
  registers_many = ap (λ (n : ℕ). 2 ^ n) h.same_size

  pub write_goes : (write_of s regs aux buf).no ≡ 0
  write_goes =
      let g = stands_good h in
      let b = bytes in
      let k = registers_many in
      ap (λ (w : Written). w.no) (image_written s regs aux g buf (omega (arith, image_long s regs aux g, few_words s regs aux g)))

  module _ (regs' aux' scratch' : List ℕ) {w : Written} (e : w ≡ write_of s regs aux buf)
      (r : Roomy kind lgk (length regs') (length aux')) (scratched : Scratch kind aux' scratch') where
    -- what was written opens
    again : Again s regs aux (open_of (write_of s regs aux buf).out regs' aux' scratch')
    again =
        let g = stands_good h in
        let k = registers_many in
        let size = size_shorter (base_for s.lg_k) _ _ (few_exceptions s regs aux g) in
        let most = twice_room s.lg_k g.shaped.low g.shaped.high in
        let lent : length regs' ≡ length regs = r.shaped.long ∙ sym (g.shaped.long ∙ bytes) in
        reopens s regs aux buf regs' aux' scratch' g write_goes lent (rw h.same_kind scratched) (λ four. omega (arith, r.room (sym h.same_kind ∙ four)))

    pub open_goes : (open_of w.out regs' aux' scratch').no ≡ 0
    open_goes = rw e again.opens

    pub stands_send : {o : Out} → o ≡ open_of w.out regs' aux' scratch' → Gives kind lgk got o
    unfolding step sends
    stands_send f =
        let call = send h.number h.number buf regs' aux' scratch' in
        rw (f, e) (record {
          calls = h.calls ++ (call ∷ []);
          number = h.number;
          stands =
              one_more h.calls h.number call (λ w. sends (w h.number) (w h.number) buf regs' aux' scratch') (λ w. refl)
              ∙ ap (λ (q : Place). sends q q buf regs' aux' scratch') h.stands
              ∙ rw (write_goes, again.opens);
          same_kind = rw again.same_sketch h.same_kind;
          same_size = rw again.same_sketch h.same_size;
        })

-- ---- the image of a kind 8 sketch fills a buffer of its length
module _ {lgk : ℕ} {got : List ℕ} {s : Sketch} {regs aux : List ℕ} (buf : List ℕ) (h : Stands 8 lgk got s regs aux) (long : length buf ≡ 40 + 2 ^ lgk) where
  fills : length (image_in s regs aux) ≡ length buf
  fills =
      let g = stands_good h in
      let none = no_words s regs aux g (λ q. omega (arith, h.same_kind)) in
      let bytes : bytes_of s.kind s.lg_k ≡ 2 ^ lgk = if_eight _ h.same_kind ∙ ap (λ (n : ℕ). 2 ^ n) h.same_size in
      omega (arith, image_long s regs aux g)

  is : write_of s regs aux buf ≡ wrote 0 (length (image_in s regs aux)) (image_in s regs aux ++ drop (length (image_in s regs aux)) buf)
  is = image_written s regs aux (stands_good h) buf (omega (arith, fills))

  pub image_goes : (write_of s regs aux buf).no ≡ 0
  image_goes = ap (λ (w : Written). w.no) is

  pub image_whole : (write_of s regs aux buf).out ≡ image_in s regs aux
  image_whole =
      let l = image_in s regs aux in
      ap (λ (w : Written). w.out) is ∙ ap (λ (n : ℕ). l ++ drop n buf) fills ∙ ap (λ (m : List ℕ). l ++ m) (drop-length buf) ∙ append-nil l
