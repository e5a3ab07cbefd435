pub mod Headers
pub mod Keeping
pub mod OwnFaults
pub mod StandingMeaning
pub mod SurveyMeaning
pub mod Told
pub mod VerdictMeaning
pub mod volumes
