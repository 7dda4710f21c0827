-- `azimuth` meets its contract.
use mathlib.Core.Path.{◌∙◌, ap₂, subst, sym}
use mir.Syntax.{w64}
use Rattle.integers.proofs.Compare.{result_same}
use Rattle.sphere.specs.Point.{Fits}
use Rattle.azimuths.specs.Azimuth.{seen, azimuth_by, azimuth_of}
use Rattle.azimuths.proofs.Laws.SectorsTo.{dot_seen}
use Rattle.azimuths.proofs.sectors.azimuth.Goals as goal

pub azimuth_by-requires : goal.azimuth_by-requires
azimuth_by-requires c =
    let first = c.dot in
    let second = c.dot-2 in
    let v = c.args in
    let p = c.requires.point in
    let f = c.requires.frame in (
      subst (Fits seen) (sym (result_same w64 first.result first.type_inv first.ensures))
          (dot_seen v.frame.east v.p f.east p),
      subst (Fits seen) (sym (result_same w64 second.result second.type_inv second.ensures))
          (dot_seen v.frame.north v.p f.north p),
    )

pub returns : goal.returns
unfolding azimuth_of
returns c =
    let first = c.dot in
    let second = c.dot-2 in
    c.azimuth_by.ensures
    ∙ ap₂ azimuth_by (result_same w64 first.result first.type_inv first.ensures)
    (result_same w64 second.result second.type_inv second.ensures)
