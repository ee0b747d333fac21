use Rattle.unique_table.specs.PassOf.{pass_steps}
use Rattle.unique_table.proofs.Calls.{packable, asked_for, found_told, full_told, first_place, has_room}
use Rattle.unique_table.proofs.pass.PassStore.intern.Goals as goal

pub pack-word-requires : goal.pack-word-requires
pack-word-requires c = packable c.args.self.now c.args.n.now c.requires.node

pub find-requires : goal.find-requires
find-requires c = asked_for c.args.self.now c.args.n.now c.pack-word.result c.requires.node c.pack-word.ensures c.requires.planned

pub returns-in-Some : goal.returns-in-Some
unfolding pass_steps
returns-in-Some c =
    assumption (
      first_place c.args.self.now c.args.n.now c.pack-word.result c.pack-word.ensures c.in-Some.place c.in-Some.ensures.vacant,
      found_told c.args.self.now c.args.n.now c.pack-word.result c.requires.node c.pack-word.ensures
          c.find.new.self c.in-Some.ensures.same.id c.in-Some.place c.in-Some.ensures.some.1,
    )

pub returns-in-None : goal.returns-in-None
unfolding pass_steps
returns-in-None c =
    assumption (
      has_room c.args.self.now c.args.n.now c.pack-word.result c.pack-word.ensures c.in-None.ensures.vacant,
      full_told c.args.self.now c.args.n.now c.pack-word.result c.requires.node c.pack-word.ensures
          c.find.new.self c.in-None.ensures.same.id c.requires.planned c.in-None.ensures.none,
    )
