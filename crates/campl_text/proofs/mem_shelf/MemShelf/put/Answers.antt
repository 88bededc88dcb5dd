use Rattle.std.proofs.Common.{◌≡◌, refl, sym, ap}
use Rattle.std.specs.Prelude.{Some, None, position}
use Rattle.campl_text.specs.Shelved.{is_named}
use Rattle.campl_text.proofs.Files.{over, behind, puts}
use Rattle.campl_text.proofs.mem_shelf.MemShelf.put.Goals as goal

-- the file was there
pub returns-in-Some-clause-ok : goal.returns-in-Some-clause-ok
returns-in-Some-clause-ok c =
    let at : position (is_named c.args.name.now) c.self.inside.files.items ≡ Some c.in-Some.place = rw c.deref.ensures.value at (sym c.in-Some.ensures) in
    let was = c.index_mut-file.result.now in
    let stood = over c.self.inside.files.items c.in-Some.place was _ c.args.name.now at c.index_mut-file.ensures.value (ap (λ f. f.name) c.file.view_is) in
    rw (← c.self.view_is) (puts _ _ c.args.name.now c.args.bytes.now (Some was) _ stood c.in_ok-bytes.ensures.items (sym (ap (λ f. f.missed) c.file.view_is)))

-- it wasn't
pub returns-in_ok-push-in-None-clause-ok : goal.returns-in_ok-push-in-None-clause-ok
returns-in_ok-push-in-None-clause-ok c =
    let none : position (is_named c.args.name.now) c.self.inside.files.items ≡ None = rw c.deref.ensures.value at (sym c.in-None.ensures) in
    let stood = behind c.self.inside.files.items _ c.args.name.now none c.in_ok-from_str-in-None.ensures.ok in
    rw (← c.self.view_is, c.in_ok-push-in-None.ensures.items) (puts _ _ c.args.name.now c.args.bytes.now None _ stood c.in_ok-bytes.ensures.items refl)
