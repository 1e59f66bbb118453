use Rattle.data_tree.proofs.Levels.{room_below, room_all}
use Rattle.data_tree.proofs.level.Level.below.Goals as goal

pub returns-clause-room : goal.returns-clause-room
returns-clause-room c = room_below c.args.payload c.args.self.depth c.args.self.room c.requires.deep c.requires.payload c.requires.room

pub returns-clause-all : goal.returns-clause-all
returns-clause-all c = room_all c.args.payload c.args.self.depth c.args.self.room c.requires.deep c.requires.payload c.requires.room
