use Rattle.std.proofs.Common.{◌≡◌, ◌++◌, ◌/◌, ◌∙◌, ℕ, List, ap, drop, map, sym, take}
use Rattle.std.proofs.lemmas.List.{map-append, take-append-drop}
use Rattle.std.proofs.lemmas.Result.{err_from_is_err_and}
use Rattle.tq_event.specs.declared.file.TableFile.{TableFile}
use Rattle.tq_cli.specs.declared.request.TableOption.{TableOption}
use Rattle.tq_commands.specs.Refusals.{IsReadRefusal}
use Rattle.tq_commands.proofs.ReadErrorLemmas.{unread_back, unread_front}
use Rattle.tq_commands.proofs.files.read_concurrently.Goals as goal

halves : {A : Type 0} (options front back : List A) (n : ℕ) → front ≡ take n options → back ≡ drop n options → front ++ back ≡ options
halves options front back n first last = ap (λ l. l ++ back) first ∙ ap (λ l. take n options ++ l) last ∙ take-append-drop n options

pub returns-in_err-tables-clause-refused : goal.returns-in_err-tables-clause-refused
returns-in_err-tables-clause-refused g c =
    let fault = err_from_is_err_and c.from_residual-in_err-tables.result c.from_residual-in_err-tables.ensures.1 in
    let second = c.join-more.ensures.second.1 in
    let is : IsReadRefusal c.split_off.new.self.items c.in_err-tables.field-0.0 = rw c.in_err-tables.was at second in
    let whole = halves c.args.options.items c.split_off.new.self.items c.in_ok-back.back.items (c.len.result / 2) c.in_ok-back.ensures.items c.in_ok-back.ensures.tail in
    rw (fault.1, fault.2) (unread_front c.split_off.new.self.items c.in_ok-back.back.items c.args.options.items whole c.in_err-tables.field-0.0 is)

pub returns-in_err-more-clause-refused : goal.returns-in_err-more-clause-refused
returns-in_err-more-clause-refused g c =
    let fault = err_from_is_err_and c.from_residual-in_err-more.result c.from_residual-in_err-more.ensures.1 in
    let first = c.join-more.ensures.first.1 in
    let is : IsReadRefusal c.in_ok-back.back.items c.in_err-more.field-0.0 = rw c.in_err-more.was at first in
    let whole = halves c.args.options.items c.split_off.new.self.items c.in_ok-back.back.items (c.len.result / 2) c.in_ok-back.ensures.items c.in_ok-back.ensures.tail in
    rw (fault.1, fault.2) (unread_back c.split_off.new.self.items c.in_ok-back.back.items c.args.options.items whole c.in_err-more.field-0.0 is)

pub returns-clause-tables : goal.returns-clause-tables
returns-clause-tables g c =
    let name = λ (t : TableFile). t.name in
    let option_name = λ (o : TableOption). o.name.items in
    let first = c.join-more.ensures.first.0 in
    let second = c.join-more.ensures.second.0 in
    let front : map name c.in_ok-tables.tables.items ≡ map option_name c.split_off.new.self.items = rw c.in_ok-tables.was at second in
    let back : map name c.in_ok-more.more.items ≡ map option_name c.in_ok-back.back.items = rw c.in_ok-more.was at first in
    let whole = halves c.args.options.items c.split_off.new.self.items c.in_ok-back.back.items (c.len.result / 2) c.in_ok-back.ensures.items c.in_ok-back.ensures.tail in
    ap (map name) c.in_ok-append.ensures.items
    ∙ map-append name c.in_ok-tables.tables.items c.in_ok-more.more.items
    ∙ ap (λ l. l ++ map name c.in_ok-more.more.items) front
    ∙ ap (λ l. map option_name c.split_off.new.self.items ++ l) back
    ∙ sym (map-append option_name c.split_off.new.self.items c.in_ok-back.back.items)
    ∙ ap (map option_name) whole
