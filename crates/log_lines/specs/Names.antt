-- The names of actions and answers, each with the kind of its arguments.
use Rattle.std.specs.Prelude.{ℕ, List, [], ◌∷◌, Option, bytes_eq, codes}
use Rattle.std.specs.Map.{lookup}
use Rattle.step_rules.specs.declared.step.NoteKey.TheVariants.{Low, High, Max, Oom}
use Rattle.step_rules.specs.declared.step.Action.{Action}
use Rattle.step_rules.specs.declared.step.Action.TheVariants as action
use Rattle.step_rules.specs.declared.step.Answer.TheVariants as answer
use Rattle.log_lines.specs.declared.name.NumberAction.{NumberAction}
use Rattle.log_lines.specs.declared.name.NumberAction.TheVariants.{Open, Shut, Get, Put, TakeIn, PassBack, Credit, Report, Absorb, Drain, Publish}
use Rattle.log_lines.specs.declared.name.NumberAction.TheVariants.{Return}
use Rattle.log_lines.specs.declared.name.TwoNumberAction.{TwoNumberAction}
use Rattle.log_lines.specs.declared.name.TwoNumberAction.TheVariants.{Freeze, Unfreeze, PassOut, Collect}
use Rattle.log_lines.specs.declared.name.GroupAction.{GroupAction}
use Rattle.log_lines.specs.declared.name.GroupAction.TheVariants.{Consume, Note, GroupKill, Remove, Kill}
use Rattle.log_lines.specs.declared.name.PagesAction.{PagesAction}
use Rattle.log_lines.specs.declared.name.PagesAction.TheVariants.{Grant, Ungrant}
use Rattle.log_lines.specs.declared.name.ActionName.{ActionName}
use Rattle.log_lines.specs.declared.name.ActionName.TheVariants.{Lock, Unlock, Number, TwoNumbers, Group, Pages, Fill, Place, Limit, Flag, Make}
use Rattle.log_lines.specs.declared.name.AnswerName.{AnswerName}
use Rattle.log_lines.specs.declared.name.AnswerName.TheVariants as reply

-- the names of the actions
abbrev pub action_names : List (List ℕ × ActionName)
action_names =
    (codes "lock", Lock) ∷ (codes "unlock", Unlock)
    ∷ (codes "open", Number Open) ∷ (codes "shut", Number Shut) ∷ (codes "get", Number Get) ∷ (codes "put", Number Put)
    ∷ (codes "take-in", Number TakeIn) ∷ (codes "pass-back", Number PassBack) ∷ (codes "credit", Number Credit)
    ∷ (codes "report", Number Report) ∷ (codes "absorb", Number Absorb) ∷ (codes "drain", Number Drain)
    ∷ (codes "publish", Number Publish) ∷ (codes "return", Number Return)
    ∷ (codes "freeze", TwoNumbers Freeze) ∷ (codes "unfreeze", TwoNumbers Unfreeze)
    ∷ (codes "pass-out", TwoNumbers PassOut)
    ∷ (codes "collect", TwoNumbers Collect)
    ∷ (codes "consume", Group Consume)
    ∷ (codes "note-low", Group (Note Low)) ∷ (codes "note-high", Group (Note High))
    ∷ (codes "note-max", Group (Note Max)) ∷ (codes "note-oom", Group (Note Oom))
    ∷ (codes "group-kill", Group GroupKill) ∷ (codes "remove", Group Remove) ∷ (codes "kill", Group Kill)
    ∷ (codes "grant", Pages Grant) ∷ (codes "ungrant", Pages Ungrant)
    ∷ (codes "fill", Fill) ∷ (codes "place", Place) ∷ (codes "limit", Limit) ∷ (codes "flag", Flag)
    ∷ (codes "make", Make) ∷ []

-- the names of the answers
abbrev pub answer_names : List (List ℕ × AnswerName)
answer_names =
    (codes "illegal", reply.Alone answer.Illegal) ∷ (codes "done", reply.Alone answer.Done)
    ∷ (codes "held", reply.Alone answer.Held)
    ∷ (codes "zero", reply.Alone answer.Zero) ∷ (codes "full", reply.Alone answer.Full)
    ∷ (codes "last", reply.Alone answer.Last)
    ∷ (codes "missed", reply.Alone answer.Missed) ∷ (codes "took", reply.Alone answer.Took)
    ∷ (codes "empty", reply.Alone answer.Empty)
    ∷ (codes "other-group", reply.Alone answer.OtherGroup) ∷ (codes "drained", reply.Alone answer.Drained)
    ∷ (codes "back", reply.Alone answer.Stocked) ∷ (codes "granted", reply.Alone answer.Granted)
    ∷ (codes "no-block", reply.Alone answer.NoFreeBlock)
    ∷ (codes "left", reply.Left) ∷ (codes "pages", reply.Pages) ∷ (codes "over", reply.Over)
    ∷ (codes "placed", reply.Placed)
    ∷ (codes "number", reply.Number) ∷ []

-- the action of this name
abbrev pub action_named : List ℕ → Option ActionName
action_named word = lookup (λ name. bytes_eq name word) action_names

-- the answer of this name
abbrev pub answer_named : List ℕ → Option AnswerName
answer_named word = lookup (λ name. bytes_eq name word) answer_names

-- an action with a number
abbrev pub action_of_number : NumberAction → ℕ → Action
action_of_number Open n = action.OpenVisit n
action_of_number Shut n = action.ShutVisit n
action_of_number Get n = action.Get n
action_of_number Put n = action.Put n
action_of_number TakeIn n = action.TakeIn n
action_of_number PassBack n = action.PassBack n
action_of_number Credit n = action.Credit n
action_of_number Report n = action.Report n
action_of_number Absorb n = action.Absorb n
action_of_number Drain n = action.DrainStock n
action_of_number Publish n = action.Publish n
action_of_number Return n = action.Return n

-- an action with a frame, and a count or a CPU
abbrev pub action_of_two_numbers : TwoNumberAction → ℕ → ℕ → Action
action_of_two_numbers Freeze m n = action.Freeze m n
action_of_two_numbers Unfreeze m n = action.Unfreeze m n
action_of_two_numbers PassOut m n = action.PassOut m n
action_of_two_numbers Collect m n = action.Collect m n

-- an action with a group
abbrev pub action_of_group : GroupAction → ℕ → Action
action_of_group Consume g = action.Consume g
action_of_group (Note key) g = action.Note key g
action_of_group GroupKill g = action.NoteGroupKill g
action_of_group Remove g = action.Remove g
action_of_group Kill g = action.Kill g

-- an action with a group and pages
abbrev pub action_of_pages : PagesAction → ℕ → ℕ → Action
action_of_pages Grant g n = action.Grant g n
action_of_pages Ungrant g n = action.Ungrant g n
