use Rattle.std.proofs.Common.{◌<◌, ◌*◌, ap, arith, subst, sym}
use Rattle.gm_base.specs.Dimensions.{Dimensions}
use Rattle.gm_label.specs.Catalogues.{Catalogue, first_source_of}
use Rattle.gm_label.specs.CataloguesRules.{rows-end}
use Rattle.gm_label.proofs.catalogue.Catalogue.end_source.Goals as goal

pub overflow_add-first_source : goal.overflow_add-first_source
overflow_add-first_source c =
    let d = c.self.inside.shape in
    let seen = ap (λ (cat : Catalogue). cat.dimensions) c.self.view_is in
    let below : c.args.block < d.parts * d.parts = subst (λ (v : Dimensions). c.args.block < v.parts * v.parts) (sym seen) c.requires in
    let first = ap (λ (v : Dimensions). first_source_of v c.args.block) seen in
    let dims = c.n-n.ensures.dimensions in
    let end = rows-end d c.args.block dims below in
    omega (arith, c.first_source.ensures, c.width.ensures.value, dims.vertices, dims.ranges)
