-- Digits of another length are none.
use Rattle.std.proofs.Common.{◌≡◌, ◌∙◌, ap, length, is_ok}
use Rattle.hex.specs.Hex.{lower_digits}
use Rattle.hex.proofs.HexLemmas.{length-encode_with}
use Rattle.vim_wire.proofs.fields.is_written.Goals as goal

pub returns-else-is_ok : goal.returns-else-is_ok
returns-else-is_ok c =
    let g : c.is_ok.result ≡ is_ok c.encode_to_slice.result = c.is_ok.ensures.value in (
      λ h. absurd (cc),
      λ e.
          let fits = c.encode_to_slice.ensures.fits.1 (c.requires ∙ ap length e ∙ length-encode_with lower_digits c.args.bytes.now) in
          g ∙ fits,
    )
