-- What a run of saves leaves kept. A save that failed may have replaced the record before it failed: whether it did is chosen by
-- whoever made the keeper, and no code can read it.
use Rattle.std.specs.Prelude.{ℕ, zero, suc, Bool, false, ◌==◌, ◌||◌, List, [], ◌∷◌, length, if◌then◌else◌}
use Rattle.std.specs.declared.option.Option.{Option}
use Rattle.std.specs.declared.option.Option.TheVariants.{None, Some}
use Rattle.call_log.specs.Events.{Event, event_of}

-- a save of these bytes, with whether it answered ok
abbrev pub save_of : ℕ → List ℕ → Event
save_of ok bytes = event_of (ok ∷ []) [] bytes

-- whether the save of this number, counted from the first, was chosen
abbrev pub is_chosen : ℕ → List Event → Bool
is_chosen n [] = false
is_chosen zero (choice ∷ choices) = choice.0 == 1
is_chosen (suc n) (choice ∷ choices) = is_chosen n choices

-- the bytes of the newest save that answered ok or was chosen
abbrev pub kept_by : List Event → List Event → Option (List ℕ)
kept_by [] choices = None
kept_by (save ∷ saves) choices = if (save.0 == 1) || is_chosen (length saves) choices then Some save.4 else kept_by saves choices
