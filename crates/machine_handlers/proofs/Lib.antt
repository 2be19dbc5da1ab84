mod BudgetLemmas
mod EventLemmas
mod GivenLemmas
mod MemberLemmas
mod SettingLemmas
mod TimerLemmas
