-- Heads that are tried.
use Rattle.std.proofs.Common.{◌≡◌, refl, List, [], ◌∷◌, ◌++◌, append_assoc}
use Rattle.campl_tree.specs.Plain.SeqType.{SeqType}
use Rattle.campl_tree.specs.View.{seq_types}
use Rattle.campl_tree.proofs.Views.{seq_views}
use Rattle.campl_types.specs.Forms.{Form}
use Rattle.campl_types.specs.Missing.{literals}
use Rattle.campl_types.specs.Substitution.{list_of}
use Rattle.campl_missing.proofs.Depths.{named-heads}

pub list_of-types : (ts : List SeqType) → list_of (seq_types ts) ≡ ts
list_of-types [] = refl
list_of-types (t ∷ ts) = rw (list_of-types ts) refl

pub literals-append : (ps qs : List Form) → literals (ps ++ qs) ≡ literals ps ++ literals qs
literals-append [] qs = refl
literals-append (p ∷ ps) qs = rw (literals-append ps qs) (simp append_assoc refl)

pub ruleset tried = (seq_views, list_of-types, named-heads)

pub ruleset gathered = (literals-append, append_assoc)
