-- A fault of a plug's links.
use Rattle.std.proofs.Common.{◌≡◌, ◌∙◌, sym, ap, subst, List, Result, Err, map}
use Rattle.std.specs.Result.{IsErr, IsErrAnd}
use Rattle.campl_tree.specs.declared.place.Place.{Place}
use Rattle.campl_tree.specs.declared.process.Last.{Last}
use Rattle.campl_tree.specs.declared.process.Last.TheVariants as last
use Rattle.campl_tree.specs.declared.process.Link.{Link}
use Rattle.campl_tree.specs.declared.process.Part.{Part}
use Rattle.campl_tree.specs.Plain.Process as b
use Rattle.campl_tree.specs.View.{view_link, view_last, view_part, parts}
use Rattle.campl_tree.proofs.Views.{view_last-Plug}
use Rattle.campl_types.specs.declared.fault.NameFault.{NameFault}
use Rattle.campl_types.specs.Names.{Name}
use Rattle.campl_names.specs.Judges.{Judges}
use Rattle.campl_types.specs.Known.{each, outside, in_chan, in_body, in_parts}
use Rattle.campl_types.specs.World.{World}
use Rattle.campl_names.proofs.Judged.{err-first, same-faults}

pub plug-stopped : {A B : Type 0} (w : World) (vs : List Name) (t : Last) (at : Place) (links ls : List Link) (rows : List Part) (fault : NameFault) (r : Result B NameFault)
    → t ≡ last.Plug at links rows → ls ≡ links → Judges {A = A} (each (λ (l : b.Link). in_chan w outside l.channel_type) (map view_link ls)) (Err fault)
    → IsErr r × IsErrAnd r (λ e. e ≡ fault) → Judges {A = B} (in_body w vs (view_last t)) r
plug-stopped {A} w vs t at links ls rows fault r i j h told =
    same-faults _ _ r
    (err-first _ (in_parts w vs (parts (map view_part rows))) fault r (subst (λ q. Judges {A = A} (each (λ (l : b.Link). in_chan w outside l.channel_type) (map view_link q)) (Err fault)) j h) told)
    (ap (in_body w vs) (sym (view_last-Plug at links rows)) ∙ ap (λ q. in_body w vs (view_last q)) (sym i))
