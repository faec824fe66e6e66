-- `image_header::check` meets its contract. Assumes nothing.
use Rattle.model.proofs.calls.Rungs.{header_short, header_off, header_right}
use Rattle.image_header.proofs.Headers.{begins_tells}
use Rattle.image_header.proofs.check.Goals as goal

pub returns-then-image-lt-REGISTERS_BYTE : goal.returns-then-image-lt-REGISTERS_BYTE
returns-then-image-lt-REGISTERS_BYTE c = header_short _ c.if-image-lt-REGISTERS_BYTE.true

pub returns-then-not-starts_with : goal.returns-then-not-starts_with
returns-then-not-starts_with c =
    let long = c.if-image-lt-REGISTERS_BYTE.false in
    header_off _ long _ (begins_tells _ _ long c.starts_with.ensures.value) c.if-not-starts_with.true

pub returns : goal.returns
returns c =
    let long = c.if-image-lt-REGISTERS_BYTE.false in
    header_right _ long _ (begins_tells _ _ long c.starts_with.ensures.value) c.if-not-starts_with.false
