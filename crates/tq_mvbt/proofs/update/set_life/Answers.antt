use Rattle.std.proofs.Common.{◌≡◌, ◌+◌, [], arith, refl, rules, true, false}
use Rattle.std.proofs.lemmas.List.Elements.{All-cons, All-nil}
use Rattle.tq_mvbt.proofs.Keyed.{keyed_by, IsNewRow}
use Rattle.tq_mvbt.proofs.Settled.{IsNewEntry}
use Rattle.tq_mvbt.proofs.Leaves.{adds_edited, leaf_settles, older_found}
use Rattle.tq_mvbt.proofs.Grown.{grows_edited}
use Rattle.tq_mvbt.proofs.Linked.{untouched_edited}
use Rattle.tq_mvbt.proofs.update.set_life.Goals as goal

pub returns-then-not-alive-clause-keyed : goal.returns-then-not-alive-clause-keyed
returns-then-not-alive-clause-keyed c before lives height later never forest =
    let off : c.args.alive ≡ false = search rules in
    keyed_by before c.args.version c.args.key c.args.alive lives height c.args.nodes.now c.edit.new.nodes c.args.leaf [] later c.requires.small c.requires.key forest c.requires.found c.edit.ensures
    (All-nil (IsNewRow c.args.version c.args.key)) (rw off refl) never

pub returns-then-not-alive-clause-settling : goal.returns-then-not-alive-clause-settling
returns-then-not-alive-clause-settling c =
    leaf_settles c.args.version c.args.key c.args.alive c.args.nodes.now c.edit.new.nodes c.args.leaf [] c.requires.small c.requires.ready c.requires.found c.edit.ensures (All-nil (IsNewEntry c.args.version)) (omega arith)

pub returns-then-not-alive-clause-grows : goal.returns-then-not-alive-clause-grows
returns-then-not-alive-clause-grows c =
    grows_edited c.args.version 0 c.args.key (c.args.key + 1) c.args.version c.args.nodes.now c.edit.new.nodes c.args.leaf [] c.edit.ensures

pub add-requires-clause-room : goal.add-requires-clause-room
add-requires-clause-room c =
    let found = c.requires.found in
    let fits = older_found c.args.version c.args.key c.args.alive c.args.nodes.now.nodes c.args.leaf c.requires.ready found in
    record { node = found.node; stands = found.stands; room = omega arith }

pub returns-clause-keyed : goal.returns-clause-keyed
returns-clause-keyed c before lives height later never forest =
    let on : c.args.alive ≡ true = search rules in
    keyed_by before c.args.version c.args.key c.args.alive lives height c.args.nodes.now c.add.new.nodes c.args.leaf _ later c.requires.small c.requires.key forest c.requires.found
    (adds_edited c.args.version c.args.key c.args.alive c.args.nodes.now c.add.new.nodes c.args.leaf _ c.requires.small on c.requires.ready c.requires.found c.add.ensures)
    (All-cons (IsNewRow c.args.version c.args.key) _ [] (record { low = refl; high = refl; born = refl; dead = refl }) (All-nil (IsNewRow c.args.version c.args.key)))
    (rw on refl) never

pub returns-clause-settling : goal.returns-clause-settling
returns-clause-settling c =
    let on : c.args.alive ≡ true = search rules in
    leaf_settles c.args.version c.args.key c.args.alive c.args.nodes.now c.add.new.nodes c.args.leaf _ c.requires.small c.requires.ready c.requires.found
    (adds_edited c.args.version c.args.key c.args.alive c.args.nodes.now c.add.new.nodes c.args.leaf _ c.requires.small on c.requires.ready c.requires.found c.add.ensures)
    (All-cons (IsNewEntry c.args.version) _ [] (record { born = refl; dead = refl }) (All-nil (IsNewEntry c.args.version))) (omega arith)

pub returns-clause-grows : goal.returns-clause-grows
returns-clause-grows c =
    let on : c.args.alive ≡ true = search rules in
    grows_edited c.args.version 0 c.args.key (c.args.key + 1) c.args.version c.args.nodes.now c.add.new.nodes c.args.leaf _
    (adds_edited c.args.version c.args.key c.args.alive c.args.nodes.now c.add.new.nodes c.args.leaf _ c.requires.small on c.requires.ready c.requires.found c.add.ensures)

pub returns-then-not-alive-clause-links : goal.returns-then-not-alive-clause-links
returns-then-not-alive-clause-links c u =
    untouched_edited c.args.version c.args.key (c.args.key + 1) c.args.version c.args.nodes.now c.edit.new.nodes c.args.leaf [] c.edit.ensures u

pub returns-clause-links : goal.returns-clause-links
returns-clause-links c u =
    let on : c.args.alive ≡ true = search rules in
    untouched_edited c.args.version c.args.key (c.args.key + 1) c.args.version c.args.nodes.now c.add.new.nodes c.args.leaf _
    (adds_edited c.args.version c.args.key c.args.alive c.args.nodes.now c.add.new.nodes c.args.leaf _ c.requires.small on c.requires.ready c.requires.found c.add.ensures) u
