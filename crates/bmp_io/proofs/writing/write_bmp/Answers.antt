use Rattle.std.proofs.Common.{◌≡◌, ◌*◌, ℕ, refl, ◌∙◌}
use Rattle.std.proofs.KnownBytes.{Appends-trans}
use Rattle.bar_base.specs.Outside.{AppendsPrefix}
use Rattle.bar_base.proofs.Appended.{on_refusal, AppendsPrefix-front, AppendsPrefix-after}
use Rattle.bar_base.specs.Paint.{painted_width, painted_height}
use Rattle.bmp_io.specs.Bmp.{bytes_before_pixels, image_size, rows_from_bottom, bmp_bytes}
use Rattle.bmp_io.proofs.writing.write_bmp.Goals as goal

same_header : (width width' height height' stride stride' : ℕ) → width ≡ width' → height ≡ height' → stride ≡ stride' →
    bytes_before_pixels width height (stride * height) ≡ bytes_before_pixels width' height' (stride' * height')
same_header width width' height height' stride stride' wide high row = rw (wide, high, row) refl

pub returns-in_err-write_all-clause-part : goal.returns-in_err-write_all-clause-part
unfolding bmp_bytes
returns-in_err-write_all-clause-part g c =
    let header : c.as_slice.result.now ≡ bytes_before_pixels (painted_width c.args.paint c.args.grid.now) (painted_height c.args.paint c.args.grid.now) (image_size c.args.paint c.args.grid.now) =
    c.as_slice.ensures.value ∙ c.header_bytes-header.ensures ∙ same_header _ _ _ _ _ _ c.painted_width-width.ensures.width c.painted_height-height.ensures.height c.stride-stride.ensures.stride in
    let part : AppendsPrefix (g.S.Sink.held c.args.sink.now) (g.S.Sink.held c.write_all.new.sink) (bmp_bytes c.args.paint c.args.grid.now) =
    AppendsPrefix-front (rows_from_bottom c.args.paint c.args.grid.now) (rw header at c.in_err-write_all.ensures.part) in
    on_refusal _ part

pub returns-clause-whole : goal.returns-clause-whole
unfolding bmp_bytes
returns-clause-whole g c =
    let header : c.as_slice.result.now ≡ bytes_before_pixels (painted_width c.args.paint c.args.grid.now) (painted_height c.args.paint c.args.grid.now) (image_size c.args.paint c.args.grid.now) =
    c.as_slice.ensures.value ∙ c.header_bytes-header.ensures ∙ same_header _ _ _ _ _ _ c.painted_width-width.ensures.width c.painted_height-height.ensures.height c.stride-stride.ensures.stride in
    let front = rw header at c.in_ok-write_all.ensures.whole in
    Appends-trans _ (g.S.Sink.held c.write_all.new.sink) _ _ _ front c.in_ok-write_pixels.ensures.whole

pub returns-in_err-write_pixels-clause-part : goal.returns-in_err-write_pixels-clause-part
unfolding bmp_bytes
returns-in_err-write_pixels-clause-part g c =
    let header : c.as_slice.result.now ≡ bytes_before_pixels (painted_width c.args.paint c.args.grid.now) (painted_height c.args.paint c.args.grid.now) (image_size c.args.paint c.args.grid.now) =
    c.as_slice.ensures.value ∙ c.header_bytes-header.ensures ∙ same_header _ _ _ _ _ _ c.painted_width-width.ensures.width c.painted_height-height.ensures.height c.stride-stride.ensures.stride in
    let front = rw header at c.in_ok-write_all.ensures.whole in
    let part : AppendsPrefix (g.S.Sink.held c.args.sink.now) (g.S.Sink.held c.write_pixels.new.sink) (bmp_bytes c.args.paint c.args.grid.now) =
    AppendsPrefix-after _ front c.in_err-write_pixels.ensures.part in
    on_refusal _ part
