use Rattle.std.proofs.Common.{◌∙◌, [], ap, get_or, refl, subst, sym, take}
use Rattle.std.specs.Prelude.{◌≡◌, ◌<◌, ◌≤◌, ◌^◌, List, Option, ℤ, length}
use Rattle.std.proofs.lemmas.List.{length-take-le}
use Rattle.std.proofs.lemmas.Option.{slice_get_read}
use Rattle.cpl_comp.specs.Components.{IsComponent}
use Rattle.cpl_comp.specs.Worlds.{CompWorld, FieldWorld, cell_value, changed, field_at as world_at, over_cells}
use Rattle.cpl_comp.specs.declared.component.Comp.{Comp}
use Rattle.cpl_comp.specs.declared.component.Role.TheVariants.{Export, Import}
use Rattle.cpl_grid.specs.Grid.{cells_in}
use Rattle.cpl_script.proofs.WorldFacts.{All-slice_get}
use Rattle.cpl_script.specs.Couplings.{layout_at}
use Rattle.cpl_script.specs.Sound.{cells_at}
use Rattle.cpl_script.specs.Transfers.{comp_at, image_at}
use Rattle.cpl_phase.specs.Locals.{StandsForComp}
use Rattle.cpl_sweep.specs.Places.{field_at}
use Rattle.cpl_serial.proofs.CarryFacts.{lined-count, lined-stamp, lined-values, pair-below, table-over}
use Rattle.cpl_serial.proofs.EngineFacts.{cells-there, lent-member, member-there, place-below}
use Rattle.cpl_serial.proofs.ImageFacts.{image-over_cells}
use Rattle.cpl_serial.proofs.LinkFacts.{carried-as-import}
use Rattle.cpl_serial.specs.Engines.{StandEach}
use Rattle.cpl_serial.proofs.linking.carry_pair.Goals as goal

pub read_export-stamp-requires-clause-field : goal.read_export-stamp-requires-clause-field
read_export-stamp-requires-clause-field c =
    let coupling = c.args.system.now in
    let comps = coupling.comps in
    let pair = c.args.pair in
    let line = c.args.line.now.line in
    let src_below : pair.src < length comps = subst (λ n. n < length comps) (sym c.requires.pair.src) c.requires.connector.src_below in
    let src = member-there comps pair.src src_below in
    let local = c.index-items-pair.result in
    let inside : pair.src < length c.args.locals.now = place-below coupling c.args.locals.now pair.src src.member local src.stands c.requires.whole in
    let stands = slice_get_read c.args.locals.now (length c.args.locals.now) pair.src local refl inside (c.index-items-pair.is ∙ ap (λ xs. get_or xs pair.src local) c.items.ensures) in
    let is = c.requires.whole.each pair.src src.member local src.stands stands in
    let field : pair.src_field < length src.member.fields = pair-below Export comps pair.src pair.src_field src.member src.stands c.requires.pair.export in
    subst (λ n. pair.src_field < n) (sym is.is.shown) field

pub read_export-stamp-requires-clause-stamps : goal.read_export-stamp-requires-clause-stamps
read_export-stamp-requires-clause-stamps c =
    let coupling = c.args.system.now in
    let comps = coupling.comps in
    let pair = c.args.pair in
    let line = c.args.line.now.line in
    let src_below : pair.src < length comps = subst (λ n. n < length comps) (sym c.requires.pair.src) c.requires.connector.src_below in
    let src = member-there comps pair.src src_below in
    let local = c.index-items-pair.result in
    let inside : pair.src < length c.args.locals.now = place-below coupling c.args.locals.now pair.src src.member local src.stands c.requires.whole in
    let stands = slice_get_read c.args.locals.now (length c.args.locals.now) pair.src local refl inside (c.index-items-pair.is ∙ ap (λ xs. get_or xs pair.src local) c.items.ensures) in
    let is = c.requires.whole.each pair.src src.member local src.stands stands in
    let field : pair.src_field < length src.member.fields = pair-below Export comps pair.src pair.src_field src.member src.stands c.requires.pair.export in
    subst (λ n. pair.src_field < n) (sym is.is.stamps) field

pub read_export-stamp-requires-clause-few : goal.read_export-stamp-requires-clause-few
read_export-stamp-requires-clause-few c =
    let coupling = c.args.system.now in
    let comps = coupling.comps in
    let pair = c.args.pair in
    let line = c.args.line.now.line in
    let src_below : pair.src < length comps = subst (λ n. n < length comps) (sym c.requires.pair.src) c.requires.connector.src_below in
    let src = member-there comps pair.src src_below in
    let local = c.index-items-pair.result in
    let inside : pair.src < length c.args.locals.now = place-below coupling c.args.locals.now pair.src src.member local src.stands c.requires.whole in
    let stands = slice_get_read c.args.locals.now (length c.args.locals.now) pair.src local refl inside (c.index-items-pair.is ∙ ap (λ xs. get_or xs pair.src local) c.items.ensures) in
    let is = c.requires.whole.each pair.src src.member local src.stands stands in
    let field : pair.src_field < length src.member.fields = pair-below Export comps pair.src pair.src_field src.member src.stands c.requires.pair.export in
    let lined = lined-count coupling pair.src src.member local is pair.src_field field in
    let sources : length (field_at local.shown pair.src_field) ≡ cells_at comps pair.src = lined ∙ sym (cells-there comps pair.src src.member src.stands) in
    subst (λ n. n ≤ 2 ^ 20) (sym lined) (All-slice_get (IsComponent _) comps pair.src src.member c.facts.ensures.comps.each src.stands).decomposition.grid.cells

pub read_export-stamp-requires-clause-values : goal.read_export-stamp-requires-clause-values
read_export-stamp-requires-clause-values c =
    let coupling = c.args.system.now in
    let comps = coupling.comps in
    let pair = c.args.pair in
    let line = c.args.line.now.line in
    let src_below : pair.src < length comps = subst (λ n. n < length comps) (sym c.requires.pair.src) c.requires.connector.src_below in
    let src = member-there comps pair.src src_below in
    let local = c.index-items-pair.result in
    let inside : pair.src < length c.args.locals.now = place-below coupling c.args.locals.now pair.src src.member local src.stands c.requires.whole in
    let stands = slice_get_read c.args.locals.now (length c.args.locals.now) pair.src local refl inside (c.index-items-pair.is ∙ ap (λ xs. get_or xs pair.src local) c.items.ensures) in
    let is = c.requires.whole.each pair.src src.member local src.stands stands in
    let field : pair.src_field < length src.member.fields = pair-below Export comps pair.src pair.src_field src.member src.stands c.requires.pair.export in
    is.is.shown_values pair.src_field [] (subst (λ n. pair.src_field < n) (sym is.is.shown) field)

pub read_export-stamp-requires-clause-equal : goal.read_export-stamp-requires-clause-equal
read_export-stamp-requires-clause-equal c = λ none.
    let coupling = c.args.system.now in
    let comps = coupling.comps in
    let pair = c.args.pair in
    let line = c.args.line.now.line in
    let src_below : pair.src < length comps = subst (λ n. n < length comps) (sym c.requires.pair.src) c.requires.connector.src_below in
    let src = member-there comps pair.src src_below in
    let local = c.index-items-pair.result in
    let inside : pair.src < length c.args.locals.now = place-below coupling c.args.locals.now pair.src src.member local src.stands c.requires.whole in
    let stands = slice_get_read c.args.locals.now (length c.args.locals.now) pair.src local refl inside (c.index-items-pair.is ∙ ap (λ xs. get_or xs pair.src local) c.items.ensures) in
    let is = c.requires.whole.each pair.src src.member local src.stands stands in
    let field : pair.src_field < length src.member.fields = pair-below Export comps pair.src pair.src_field src.member src.stands c.requires.pair.export in
    let lined = lined-count coupling pair.src src.member local is pair.src_field field in
    let sources : length (field_at local.shown pair.src_field) ≡ cells_at comps pair.src = lined ∙ sym (cells-there comps pair.src src.member src.stands) in
    let dst_below : pair.dst < length comps = subst (λ n. n < length comps) (sym c.requires.pair.dst) c.requires.connector.dst_below in
    let dst = get_or c.comps.result.now pair.dst c.index-comps-pair.result in
    let dst_there = lent-member comps c.comps.result.now pair.dst c.index-comps-pair.result c.comps.ensures dst_below in
    let cells : c.cells-cells.result ≡ cells_at comps pair.dst =
    c.cells-cells.ensures ∙ ap cells_in c.grid.ensures.value ∙ sym (cells-there comps pair.dst dst dst_there) in
    sources ∙ ap (cells_at comps) c.requires.pair.src ∙ c.requires.connector.even none c.requires.some ∙ ap (cells_at comps) (sym c.requires.pair.dst) ∙ sym cells

pub read_export-stamp-requires-clause-weighted : goal.read_export-stamp-requires-clause-weighted
read_export-stamp-requires-clause-weighted c =
    let coupling = c.args.system.now in
    let comps = coupling.comps in
    let pair = c.args.pair in
    let line = c.args.line.now.line in
    let src_below : pair.src < length comps = subst (λ n. n < length comps) (sym c.requires.pair.src) c.requires.connector.src_below in
    let src = member-there comps pair.src src_below in
    let local = c.index-items-pair.result in
    let inside : pair.src < length c.args.locals.now = place-below coupling c.args.locals.now pair.src src.member local src.stands c.requires.whole in
    let stands = slice_get_read c.args.locals.now (length c.args.locals.now) pair.src local refl inside (c.index-items-pair.is ∙ ap (λ xs. get_or xs pair.src local) c.items.ensures) in
    let is = c.requires.whole.each pair.src src.member local src.stands stands in
    let field : pair.src_field < length src.member.fields = pair-below Export comps pair.src pair.src_field src.member src.stands c.requires.pair.export in
    let lined = lined-count coupling pair.src src.member local is pair.src_field field in
    let sources : length (field_at local.shown pair.src_field) ≡ cells_at comps pair.src = lined ∙ sym (cells-there comps pair.src src.member src.stands) in
    let dst_below : pair.dst < length comps = subst (λ n. n < length comps) (sym c.requires.pair.dst) c.requires.connector.dst_below in
    let dst = get_or c.comps.result.now pair.dst c.index-comps-pair.result in
    let dst_there = lent-member comps c.comps.result.now pair.dst c.index-comps-pair.result c.comps.ensures dst_below in
    let cells : c.cells-cells.result ≡ cells_at comps pair.dst =
    c.cells-cells.ensures ∙ ap cells_in c.grid.ensures.value ∙ sym (cells-there comps pair.dst dst dst_there) in
    table-over comps line.src line.dst (length (field_at local.shown pair.src_field)) c.cells-cells.result c.args.line.now.weights
    (ap (cells_at comps) (sym c.requires.pair.src) ∙ sym sources) (ap (cells_at comps) (sym c.requires.pair.dst) ∙ sym cells) c.requires.connector.between

pub read_export-stamp-requires-clause-room : goal.read_export-stamp-requires-clause-room
read_export-stamp-requires-clause-room c =
    let coupling = c.args.system.now in
    let comps = coupling.comps in
    let pair = c.args.pair in
    let line = c.args.line.now.line in
    let src_below : pair.src < length comps = subst (λ n. n < length comps) (sym c.requires.pair.src) c.requires.connector.src_below in
    let src = member-there comps pair.src src_below in
    let local = c.index-items-pair.result in
    let inside : pair.src < length c.args.locals.now = place-below coupling c.args.locals.now pair.src src.member local src.stands c.requires.whole in
    let stands = slice_get_read c.args.locals.now (length c.args.locals.now) pair.src local refl inside (c.index-items-pair.is ∙ ap (λ xs. get_or xs pair.src local) c.items.ensures) in
    let is = c.requires.whole.each pair.src src.member local src.stands stands in
    let field : pair.src_field < length src.member.fields = pair-below Export comps pair.src pair.src_field src.member src.stands c.requires.pair.export in
    let lined = lined-count coupling pair.src src.member local is pair.src_field field in
    let sources : length (field_at local.shown pair.src_field) ≡ cells_at comps pair.src = lined ∙ sym (cells-there comps pair.src src.member src.stands) in
    subst (λ n. n ≤ length c.args.buffers.now.gathered) (sym lined)
    (All-slice_get (λ (comp : Comp). cells_in comp.decomp.grid ≤ length c.args.buffers.now.gathered) comps pair.src src.member c.requires.room.gathered src.stands)

pub put_import-requires-clause-field : goal.put_import-requires-clause-field
put_import-requires-clause-field c = λ comp there. pair-below Import c.args.system.now.comps c.args.pair.dst c.args.pair.dst_field comp there c.requires.pair.import

pub put_import-requires-clause-count : goal.put_import-requires-clause-count
put_import-requires-clause-count c =
    let coupling = c.args.system.now in
    let comps = coupling.comps in
    let pair = c.args.pair in
    let dst_below : pair.dst < length comps = subst (λ n. n < length comps) (sym c.requires.pair.dst) c.requires.connector.dst_below in
    let dst = get_or c.comps.result.now pair.dst c.index-comps-pair.result in
    let dst_there = lent-member comps c.comps.result.now pair.dst c.index-comps-pair.result c.comps.ensures dst_below in
    let cells : c.cells-cells.result ≡ cells_at comps pair.dst =
    c.cells-cells.ensures ∙ ap cells_in c.grid.ensures.value ∙ sym (cells-there comps pair.dst dst dst_there) in
    let room = All-slice_get (λ (comp : Comp). cells_in comp.decomp.grid ≤ length c.args.buffers.now.image) comps pair.dst dst c.requires.room.image dst_there in
    let fits : c.cells-cells.result ≤ length c.args.buffers.now.image =
    subst (λ n. n ≤ length c.args.buffers.now.image) (sym (cells ∙ cells-there comps pair.dst dst dst_there)) room in
    let long : length c.values.result.now ≡ length c.args.buffers.now.image = ap length c.values.ensures ∙ c.read_export-stamp.ensures.image_size in
    length-take-le c.cells-cells.result c.values.result.now (subst (λ n. c.cells-cells.result ≤ n) (sym long) fits) ∙ cells

pub returns-clause-after : goal.returns-clause-after
returns-clause-after c = λ before world held same stand.
    let coupling = c.args.system.now in
    let comps = coupling.comps in
    let pair = c.args.pair in
    let line = c.args.line.now.line in
    let src_below : pair.src < length comps = subst (λ n. n < length comps) (sym c.requires.pair.src) c.requires.connector.src_below in
    let src = member-there comps pair.src src_below in
    let local = c.index-items-pair.result in
    let inside : pair.src < length c.args.locals.now = place-below coupling c.args.locals.now pair.src src.member local src.stands c.requires.whole in
    let stands = slice_get_read c.args.locals.now (length c.args.locals.now) pair.src local refl inside (c.index-items-pair.is ∙ ap (λ xs. get_or xs pair.src local) c.items.ensures) in
    let is = c.requires.whole.each pair.src src.member local src.stands stands in
    let field : pair.src_field < length src.member.fields = pair-below Export comps pair.src pair.src_field src.member src.stands c.requires.pair.export in
    let dst_below : pair.dst < length comps = subst (λ n. n < length comps) (sym c.requires.pair.dst) c.requires.connector.dst_below in
    let dst = get_or c.comps.result.now pair.dst c.index-comps-pair.result in
    let dst_there = lent-member comps c.comps.result.now pair.dst c.index-comps-pair.result c.comps.ensures dst_below in
    let cells : c.cells-cells.result ≡ cells_at comps pair.dst =
    c.cells-cells.ensures ∙ ap cells_in c.grid.ensures.value ∙ sym (cells-there comps pair.dst dst dst_there) in
    let weights = c.args.line.now.weights in
    let export = world_at (comp_at before pair.src).fields pair.src_field in
    let source = stand.each pair.src src.member local src.stands stands in
    let there : StandsForComp src.member (comp_at before pair.src) local = subst (λ (w : CompWorld). StandsForComp src.member w local) same source in
    let values = lined-values coupling pair.src src.member local is pair.src_field field (comp_at before pair.src) there (held.each pair.src src.member src.stands) in
    let stamp = c.read_export-stamp.ensures.stamp ∙ lined-stamp coupling pair.src src.member local is pair.src_field field (comp_at before pair.src) there in
    let layout = layout_at comps pair.dst in
    let front = take c.cells-cells.result c.values.result.now in
    let image : front ≡ over_cells layout (image_at weights (cell_value export.values)) =
    image-over_cells layout weights (field_at local.shown pair.src_field) front c.cells-cells.result (sym cells)
    (ap (take c.cells-cells.result) c.values.ensures ∙ c.read_export-stamp.ensures.image)
    ∙ ap (λ (list : List ℤ). over_cells layout (image_at weights (cell_value list))) values in
    let With : List ℤ → Option ℤ → Type 0 = λ values stamp. StandEach coupling
    (changed (λ comp. record comp { fields = changed (λ (taken : FieldWorld). record taken { values = values; stamp = stamp }) pair.dst_field comp.fields }) pair.dst world)
    c.put_import.new.locals in
    let put : With front c.read_export-stamp.result = c.put_import.ensures.after world stand in
    subst (λ w. StandEach coupling w c.put_import.new.locals) (sym (carried-as-import comps c.args.line.now before world pair export refl))
    (subst (With (over_cells layout (image_at weights (cell_value export.values)))) stamp (subst (λ v. With v c.read_export-stamp.result) image put))
