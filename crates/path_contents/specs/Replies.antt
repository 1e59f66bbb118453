-- The form of a reply, by its command.
use Rattle.fs_model.specs.declared.reply.Reply.{Reply}
use Rattle.fs_model.specs.declared.reply.Reply.TheVariants.{Done, Rows, Info, Target, Content, Error}

-- rows, or an error of the language
abbrev pub IsRows : Reply → Type 0
IsRows (Rows rows) = Unit {0}
IsRows (Error e) = Unit {0}
IsRows Done = ⊥
IsRows (Info attr size) = ⊥
IsRows (Target target) = ⊥
IsRows (Content bytes) = ⊥

abbrev pub IsStatReply : Reply → Type 0
IsStatReply (Info attr size) = Unit {0}
IsStatReply (Error e) = Unit {0}
IsStatReply Done = ⊥
IsStatReply (Rows rows) = ⊥
IsStatReply (Target target) = ⊥
IsStatReply (Content bytes) = ⊥

abbrev pub IsTarget : Reply → Type 0
IsTarget (Target target) = Unit {0}
IsTarget (Error e) = Unit {0}
IsTarget Done = ⊥
IsTarget (Rows rows) = ⊥
IsTarget (Info attr size) = ⊥
IsTarget (Content bytes) = ⊥

abbrev pub IsContent : Reply → Type 0
IsContent (Content bytes) = Unit {0}
IsContent (Error e) = Unit {0}
IsContent Done = ⊥
IsContent (Rows rows) = ⊥
IsContent (Info attr size) = ⊥
IsContent (Target target) = ⊥
