pub mod Audits
pub mod Origins
pub mod Stages
