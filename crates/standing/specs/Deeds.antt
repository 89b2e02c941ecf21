-- What a line asks for, by its verb.
use Rattle.grammar.specs.declared.Verb.{Verb}
use Rattle.standing.specs.declared.Call.{Call}
use Rattle.standing.specs.declared.Deed.{Deed}
use Rattle.chip.specs.declared.events.Event.{Event}
use Rattle.standing.specs.declared.Post.{Post}
use Rattle.standing.specs.declared.Question.{Question}
use Rattle.standing.specs.declared.Setting.{Setting}

unfoldable pub deed_of : Verb → Deed
deed_of Verb.Blank = Deed.Nothing
deed_of Verb.Frame = Deed.Event Event.Frame
deed_of Verb.Done = Deed.Event Event.Completion
deed_of Verb.Cut = Deed.Event Event.Cut
deed_of Verb.New = Deed.Setting Setting.New
deed_of Verb.Status = Deed.Question Question.Status
deed_of Verb.Work = Deed.Question Question.Work
deed_of Verb.Locks = Deed.Question Question.Locks
deed_of Verb.Dump = Deed.Question Question.Dump
deed_of Verb.Full = Deed.Setting Setting.Full
deed_of Verb.Short = Deed.Setting Setting.Short
deed_of Verb.Strict = Deed.Setting Setting.Strict
deed_of Verb.Fill = Deed.Setting Setting.Fill
deed_of Verb.Buffer = Deed.Setting Setting.Buffer
deed_of Verb.Lend = Deed.Setting Setting.Lend
deed_of Verb.Record = Deed.Setting Setting.Record
deed_of Verb.Is = Deed.Question Question.Is
deed_of Verb.Pattern = Deed.Setting Setting.Pattern
deed_of Verb.Save = Deed.Post Post.Save
deed_of Verb.Load = Deed.Post Post.Load
deed_of Verb.SaveRaw = Deed.Post Post.SaveRaw
deed_of Verb.LoadRaw = Deed.Post Post.LoadRaw
deed_of Verb.CompareRaw = Deed.Post Post.CompareRaw
deed_of Verb.Store = Deed.Call Call.Store
deed_of Verb.Find = Deed.Call Call.Find
deed_of Verb.Stations = Deed.Call Call.Stations
deed_of Verb.Wrong = Deed.Wrong
