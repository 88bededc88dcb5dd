-- Sources judged: the first fault, as the reference tells it.
use Rattle.std.proofs.Common.{◌≡◌, refl, [], ◌∷◌, Some, None, codes}
use Rattle.campl_tree.specs.Plain.ChanType as c
use Rattle.campl_tree.specs.Plain.Process as b
use Rattle.campl_tree.specs.Plain.Decl as d
use Rattle.campl_tree.specs.Plain.Decl.{Program}
use Rattle.campl_linear.specs.Faults.{PartCount}
use Rattle.typed_sources.specs.Trees.{place, ident, link, header}
use Rattle.judged_sources.specs.Told.{told}
use Rattle.campl_seqcheck.specs.Judged.{Fails}

abbrev 65_source : Program
65_source =
    (d.Process (record { place = (place 1 1); name = (ident 1 6 (codes "run")); parameters = ([]); inputs = ([]); outputs = ([]); row = record { place = (place 2 5); variables = ([]); inputs = ([]); outputs = ([]); body = (b.Plug (place 2 13) (link (ident 2 18 (codes "c")) c.TopBot ∷ []) (b.part_then (header (place 3 9) ([]) ([])) (b.Halt (place 3 15) None) (b.part_then (header (place 4 9) ([]) ([])) (b.Halt (place 4 15) None) (b.part_then (header (place 5 9) ([]) ([])) (b.Halt (place 5 15) None) (b.part_then (header (place 6 9) ([]) ([])) (b.Halt (place 6 15) None) (b.part_then (header (place 7 9) ([]) ([])) (b.Halt (place 7 15) None) (b.part_then (header (place 8 9) ([]) ([])) (b.Halt (place 8 15) None) (b.part_then (header (place 9 9) ([]) ([])) (b.Halt (place 9 15) None) (b.part_then (header (place 10 9) ([]) ([])) (b.Halt (place 10 15) None) (b.part_then (header (place 11 9) ([]) ([])) (b.Halt (place 11 15) None) (b.part_then (header (place 12 9) ([]) ([])) (b.Halt (place 12 15) None) (b.part_then (header (place 13 9) ([]) ([])) (b.Halt (place 13 15) None) (b.part_then (header (place 14 9) ([]) ([])) (b.Halt (place 14 15) None) (b.part_then (header (place 15 9) ([]) ([])) (b.Halt (place 15 15) None) (b.part_then (header (place 16 9) ([]) ([])) (b.Halt (place 16 15) None) (b.part_then (header (place 17 9) ([]) ([])) (b.Halt (place 17 15) None) (b.part_then (header (place 18 9) ([]) ([])) (b.Halt (place 18 15) None) (b.part_then (header (place 19 9) ([]) ([])) (b.Halt (place 19 15) None) (b.part_then (header (place 20 9) ([]) ([])) (b.Halt (place 20 15) None) (b.part_then (header (place 21 9) ([]) ([])) (b.Halt (place 21 15) None) (b.part_then (header (place 22 9) ([]) ([])) (b.Halt (place 22 15) None) (b.part_then (header (place 23 9) ([]) ([])) (b.Halt (place 23 15) None) (b.part_then (header (place 24 9) ([]) ([])) (b.Halt (place 24 15) None) (b.part_then (header (place 25 9) ([]) ([])) (b.Halt (place 25 15) None) (b.part_then (header (place 26 9) ([]) ([])) (b.Halt (place 26 15) None) (b.part_then (header (place 27 9) ([]) ([])) (b.Halt (place 27 15) None) (b.part_then (header (place 28 9) ([]) ([])) (b.Halt (place 28 15) None) (b.part_then (header (place 29 9) ([]) ([])) (b.Halt (place 29 15) None) (b.part_then (header (place 30 9) ([]) ([])) (b.Halt (place 30 15) None) (b.part_then (header (place 31 9) ([]) ([])) (b.Halt (place 31 15) None) (b.part_then (header (place 32 9) ([]) ([])) (b.Halt (place 32 15) None) (b.part_then (header (place 33 9) ([]) ([])) (b.Halt (place 33 15) None) (b.part_then (header (place 34 9) ([]) ([])) (b.Halt (place 34 15) None) (b.part_then (header (place 35 9) ([]) ([])) (b.Halt (place 35 15) None) (b.part_then (header (place 36 9) ([]) ([])) (b.Halt (place 36 15) None) (b.part_then (header (place 37 9) ([]) ([])) (b.Halt (place 37 15) None) (b.part_then (header (place 38 9) ([]) ([])) (b.Halt (place 38 15) None) (b.part_then (header (place 39 9) ([]) ([])) (b.Halt (place 39 15) None) (b.part_then (header (place 40 9) ([]) ([])) (b.Halt (place 40 15) None) (b.part_then (header (place 41 9) ([]) ([])) (b.Halt (place 41 15) None) (b.part_then (header (place 42 9) ([]) ([])) (b.Halt (place 42 15) None) (b.part_then (header (place 43 9) ([]) ([])) (b.Halt (place 43 15) None) (b.part_then (header (place 44 9) ([]) ([])) (b.Halt (place 44 15) None) (b.part_then (header (place 45 9) ([]) ([])) (b.Halt (place 45 15) None) (b.part_then (header (place 46 9) ([]) ([])) (b.Halt (place 46 15) None) (b.part_then (header (place 47 9) ([]) ([])) (b.Halt (place 47 15) None) (b.part_then (header (place 48 9) ([]) ([])) (b.Halt (place 48 15) None) (b.part_then (header (place 49 9) ([]) ([])) (b.Halt (place 49 15) None) (b.part_then (header (place 50 9) ([]) ([])) (b.Halt (place 50 15) None) (b.part_then (header (place 51 9) ([]) ([])) (b.Halt (place 51 15) None) (b.part_then (header (place 52 9) ([]) ([])) (b.Halt (place 52 15) None) (b.part_then (header (place 53 9) ([]) ([])) (b.Halt (place 53 15) None) (b.part_then (header (place 54 9) ([]) ([])) (b.Halt (place 54 15) None) (b.part_then (header (place 55 9) ([]) ([])) (b.Halt (place 55 15) None) (b.part_then (header (place 56 9) ([]) ([])) (b.Halt (place 56 15) None) (b.part_then (header (place 57 9) ([]) ([])) (b.Halt (place 57 15) None) (b.part_then (header (place 58 9) ([]) ([])) (b.Halt (place 58 15) None) (b.part_then (header (place 59 9) ([]) ([])) (b.Halt (place 59 15) None) (b.part_then (header (place 60 9) ([]) ([])) (b.Halt (place 60 15) None) (b.part_then (header (place 61 9) ([]) ([])) (b.Halt (place 61 15) None) (b.part_then (header (place 62 9) ([]) ([])) (b.Halt (place 62 15) None) (b.part_then (header (place 63 9) ([]) ([])) (b.Halt (place 63 15) None) (b.part_then (header (place 64 9) ([]) ([])) (b.Halt (place 64 15) None) (b.part_then (header (place 65 9) ([]) ([])) (b.Halt (place 65 15) None) (b.part_then (header (place 66 9) ([]) ([])) (b.Halt (place 66 15) None) (b.part_then (header (place 67 9) ([]) ([])) (b.Halt (place 67 15) None) b.no_parts)))))))))))))))))))))))))))))))))))))))))))))))))))))))))))))))))) } })) ∷ []

65_told : told 65_source ≡ Fails (PartCount (place 2 13))
65_told = refl

abbrev one_source : Program
one_source =
    (d.Process (record { place = (place 1 1); name = (ident 1 6 (codes "run")); parameters = ([]); inputs = ([]); outputs = ([]); row = record { place = (place 2 5); variables = ([]); inputs = ([]); outputs = ([]); body = (b.Plug (place 2 13) (link (ident 2 18 (codes "c")) c.TopBot ∷ []) (b.part_then (header (place 3 9) ([]) ((ident 3 12 (codes "c")) ∷ [])) (b.Halt (place 3 17) (Some (ident 3 22 (codes "c")))) b.no_parts)) } })) ∷ []

one_told : told one_source ≡ Fails (PartCount (place 2 13))
one_told = refl
